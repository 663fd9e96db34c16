-- The laws of pass lines.
pub mod Rim
