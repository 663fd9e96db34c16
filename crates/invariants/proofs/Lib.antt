-- The laws of what stays true over a pass, and over every list of calls. Assumes nothing.
pub mod Shading
pub mod Extended
pub mod History
pub mod Waiting
pub mod Grow
pub mod Fill
pub mod Local
pub mod Marks
pub mod GrowMarks
pub mod Run
pub mod Boxes
pub mod Unshaded
