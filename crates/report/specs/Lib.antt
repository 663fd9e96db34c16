-- The definitions of what the library calls that write a result's text are lent, answer and leave. Definitions only.
pub mod WriteResult
pub mod Said
pub mod Asked
