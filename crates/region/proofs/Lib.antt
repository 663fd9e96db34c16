-- Laws of a number against two ends, of the cells of a round of local, and of a round, a place at a time.
pub mod Near
pub mod Told
pub mod Lines
pub mod Jumps
pub mod Places
