-- The definitions of what fill's functions ask and leave. Definitions only.
pub mod Filling
