-- The passes as functions for other languages. Definitions only.
pub mod Passes
