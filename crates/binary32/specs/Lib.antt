pub mod Sqrt
pub mod Steps
pub mod Ranges
pub mod Hex
pub mod Numbers
pub mod Said
