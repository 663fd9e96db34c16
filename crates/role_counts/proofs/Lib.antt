-- The laws of counts for each role. Assumes nothing.
pub mod Sums
pub mod Together
