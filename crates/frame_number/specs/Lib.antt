-- The definitions of the refusals of a line's numbers. Definitions only.
pub mod Numbers
