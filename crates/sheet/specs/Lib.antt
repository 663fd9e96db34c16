-- The definitions of the sheet: cells, what a place holds, places that hold nothing, shades, corners seen through the sheet, pairings. Definitions only.
pub mod Cells
pub mod Words
pub mod Blank
pub mod Shades
pub mod Corners
pub mod Seeing
pub mod Pairing
