-- The definitions of two frames that differ only in the order of their corner lines, and the claim on their runs. Definitions only.
pub mod Reordering
