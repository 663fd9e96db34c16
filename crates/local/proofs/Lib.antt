-- Laws of local's rounds, and of the buffers that its code is lent.
pub mod Depth
pub mod Walk
pub mod Rounds
