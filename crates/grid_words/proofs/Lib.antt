-- Laws of the label box, the reader and the writers as functions for other languages. Assumes nothing.
pub mod Told
pub mod Frames
pub mod Texts
