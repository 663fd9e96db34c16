-- The laws: a call that is not refused says small numbers.
pub mod Counts
pub mod Small
