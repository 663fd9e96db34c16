-- The laws of the sheet, a module for each of the definitions. Assumes nothing.
pub mod Laws
pub mod Words
pub mod Blank
pub mod Shades
pub mod Corners
pub mod Pairing
