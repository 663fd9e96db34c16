-- Laws on trying a cell, that the passes' proofs cite.
pub mod Laws
