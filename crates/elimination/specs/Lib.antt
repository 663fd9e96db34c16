-- The solution of eight equations: rounded operations, tables, the solution itself, and the shape of its equations. Definitions only.
pub mod Rounded
pub mod Tables
pub mod Solve
pub mod Shape
