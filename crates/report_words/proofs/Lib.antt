-- The laws of outcomes as words.
pub mod Outcomes
pub mod Putting
