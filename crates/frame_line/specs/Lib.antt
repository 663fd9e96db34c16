-- The table of a frame's lines, a line read and printed by it, the checks of a line's numbers, and a line as the code holds it. Definitions only.
pub mod Table
pub mod Lines
pub mod Checks
pub mod Held
