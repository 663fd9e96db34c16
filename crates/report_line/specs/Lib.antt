-- The definitions of a result's text, of a refusal's line, of what a line writer asks, and of lines that are as long as others. Definitions only.
pub mod Sizes
pub mod Result
pub mod Refused
pub mod Said
pub mod Like
pub mod Written
