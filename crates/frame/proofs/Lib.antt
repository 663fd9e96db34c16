-- Laws of the reader.
pub mod Sets
pub mod Adding
pub mod Turn
pub mod Leaving
pub mod Mapped
pub mod Around
