-- Laws of how far an answer was said, and what was printed of it.
pub mod Telling
pub mod Printing
pub mod Writing
