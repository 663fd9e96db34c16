-- Laws of reading an input.
pub mod Laws
