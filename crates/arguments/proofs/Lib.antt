-- The laws of the arguments' checks: of the tests, what an accepted call knows, and of paired frames. Assumes nothing.
pub mod Chains
pub mod Tests
pub mod Laws
pub mod SheetSearch
pub mod Pairing
pub mod Meaning
pub mod Holding
pub mod HoldingShades
