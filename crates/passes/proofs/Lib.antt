-- Laws on what the passes do, that their proofs and the laws over lists of calls cite.
pub mod Changes
pub mod Over
pub mod Free
pub mod Queue
pub mod Enough
pub mod Run
pub mod Nearest
pub mod Said
pub mod Rounds
