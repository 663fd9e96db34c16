-- The definitions of a frame: read from a text, printed, what the library call leaves, how the reader holds what it has read, and the label box that
-- is kept with its sheet. Definitions only.
pub mod Frame
pub mod Text
pub mod ReadFrame
pub mod Said
pub mod Reading
pub mod Around
