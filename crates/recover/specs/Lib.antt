-- A run of the frame program.
pub mod Program
