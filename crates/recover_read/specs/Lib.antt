-- Reading an input to its end.
pub mod Reading
