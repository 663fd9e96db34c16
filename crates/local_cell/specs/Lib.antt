-- The definitions of what the functions that try one cell of local ask and leave. Definitions only.
pub mod Extending
pub mod Work
