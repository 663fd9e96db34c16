-- The definitions of the cells of a round of local as the code tells them, and of a round a place at a time. Definitions only.
pub mod Region
pub mod Windowed
pub mod Places
pub mod Walk
