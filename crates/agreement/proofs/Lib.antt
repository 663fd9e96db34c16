-- The laws of two runs on frames with the same corners in another order. Assumes nothing.
pub mod Try
pub mod Cells
pub mod Grow
pub mod Fill
pub mod Local
pub mod Run
