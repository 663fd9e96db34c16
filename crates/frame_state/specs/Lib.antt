-- The definitions of what a frame's lines have said so far. Definitions only.
pub mod State
