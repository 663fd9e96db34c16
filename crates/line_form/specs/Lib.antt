-- The definitions of integers in text, of lines that have a form, and of the lines of a text. Definitions only.
pub mod Integers
pub mod Forms
pub mod Lines
pub mod Lengths
pub mod Held
pub mod Written
