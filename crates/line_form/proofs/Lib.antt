-- The laws of integers in text, and of lines that have a form: `Laws` is the file to cite.
pub mod Decimal
pub mod Laws
pub mod Reading
pub mod Writing
pub mod Lines
pub mod Ends
pub mod Every
pub mod Told
pub mod Examples
