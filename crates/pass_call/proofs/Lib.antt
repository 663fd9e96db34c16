-- The laws of a call of any of the three passes. Assumes nothing.
pub mod Calling
