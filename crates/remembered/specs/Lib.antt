-- The definitions of what local remembers of a cell. Definitions only.
pub mod Remembered
