-- Laws of what a frame's passes leave, and of the answer piece by piece.
pub mod Ran
pub mod Pieces
pub mod Raised
pub mod Recovering
pub mod Saying
pub mod Printing
