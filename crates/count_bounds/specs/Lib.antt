-- The definitions of what is small in a pass line. Definitions only.
pub mod Bounds
