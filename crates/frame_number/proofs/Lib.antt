-- Laws of the refusals of a line's numbers.
pub mod Laws
