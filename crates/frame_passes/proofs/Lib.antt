-- The laws of a frame's passes.
pub mod Running
