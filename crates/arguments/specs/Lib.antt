-- The definitions: why a call is refused, what an accepted one knows, what the inner functions ask. Definitions only.
pub mod Shades
pub mod Around
pub mod Arguments
pub mod Accepted
pub mod Asked
pub mod Front
pub mod Meaning
