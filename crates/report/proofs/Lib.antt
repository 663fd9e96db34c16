-- The laws of a result's text: `Laws` is the file to cite.
pub mod Joining
pub mod Numbered
pub mod Sums
pub mod Short
pub mod Trying
pub mod Laws
pub mod Checking
pub mod Writing
pub mod Blank
pub mod Said
pub mod Answers
