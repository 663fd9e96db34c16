-- The claim on the results of two frames that differ only in the order of their corner lines. Definitions only.
pub mod Alike
