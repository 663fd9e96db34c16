-- Laws on plain numbers and floats that the proofs of several functions, and other crates, cite.
pub mod Squares
pub mod Magnitude
pub mod Normalize
pub mod Assemble
pub mod Patterns
pub mod Answered
pub mod Unique
pub mod Rooting
pub mod Exists
pub mod Monotone
pub mod Finite
pub mod Between
pub mod Digits
