-- The definitions of what stays true over a pass, and over a list of calls. Definitions only.
pub mod Kept
pub mod Marks
pub mod Calls
pub mod Boxes
pub mod Unshaded
