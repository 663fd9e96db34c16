-- The laws of whole frames. Assumes nothing.
pub mod Order
pub mod Parts
pub mod Joining
pub mod Refusals
pub mod Back
pub mod Patches
pub mod Refusing
pub mod Labels
pub mod Shades
pub mod Runs
pub mod Unshaded
pub mod BareGrow
pub mod Roles
pub mod Raised
pub mod Examples
