-- Laws of the exported fit. Assumes nothing.
pub mod Leaving
