-- The laws of the table, of a line by it, and of the checks of a line's numbers.
pub mod Rows
pub mod Laws
pub mod Tried
pub mod Numbers
pub mod Checking
pub mod Shapes
pub mod Words
pub mod Said
