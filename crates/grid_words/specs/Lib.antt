-- The label box, the reader and the writers of a result's text as functions for other languages. Definitions only.
pub mod Words
pub mod Around
pub mod Frames
pub mod Texts
