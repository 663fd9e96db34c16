-- The definitions of what an accepted frame starts, of its patches, of its shades, of bare grow and of who runs its passes. Definitions only.
pub mod Calls
pub mod Patches
pub mod Shades
pub mod BareGrow
pub mod Roles
