-- The laws of the solution of eight equations. `Laws` has those for users of the crate. Assumes nothing.
pub mod Tables
pub mod Shape
pub mod Made
pub mod Finite
pub mod Rows
pub mod Sound
pub mod Laws
