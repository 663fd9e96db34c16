-- The definitions of a frame's passes as they are run. Definitions only.
pub mod Running
