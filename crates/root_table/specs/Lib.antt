pub mod Roots
pub mod Whole
