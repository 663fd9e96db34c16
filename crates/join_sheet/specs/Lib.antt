-- The definitions of the join as the code has it. Definitions only.
pub mod Held
