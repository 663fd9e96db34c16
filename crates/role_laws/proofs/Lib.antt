-- The laws of the lines of the roles. Assumes nothing.
pub mod Outcomes
pub mod Together
pub mod Every
pub mod Computed
