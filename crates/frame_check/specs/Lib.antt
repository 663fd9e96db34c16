-- The definitions of a line's checks. Definitions only.
pub mod Checks
