-- The definitions of 01's "Edge". Definitions only.
pub mod Edge
