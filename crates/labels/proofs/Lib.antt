-- The laws of the labels of a sheet, a module for each of the definitions, and of paired sheets. Assumes nothing.
pub mod Below
pub mod Written
pub mod Signed
pub mod Labelled
pub mod Box
pub mod Keeping
pub mod Between
pub mod Rim
pub mod Used
pub mod Pairing
pub mod Count
