-- Laws of one cell of local, and of the buffers that the code is lent for it.
pub mod Visit
pub mod Memory
