-- The answers are worked out. Assumes nothing.
pub mod Answer
pub mod Paper
pub mod Pairing
pub mod Ran
pub mod Pair
pub mod Shaded
pub mod Patched
pub mod Boundary
