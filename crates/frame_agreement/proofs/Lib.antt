-- The laws of two frames that differ only in the order of their corner lines. Assumes nothing.
pub mod Shades
pub mod Patches
pub mod Reordering
