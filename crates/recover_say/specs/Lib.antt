-- How far an answer was said.
pub mod Said
