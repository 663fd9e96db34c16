-- Outcomes of passes as words. Definitions only.
pub mod Outcomes
pub mod Asked
