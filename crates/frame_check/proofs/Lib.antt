-- Laws of the checks of a line.
pub mod Laws
