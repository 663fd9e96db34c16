-- Laws of the passes as functions for other languages. Assumes nothing.
pub mod Marks
