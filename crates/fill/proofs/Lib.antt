-- Laws of fill's definition and of the buffers that its code is lent.
pub mod Region
pub mod Visit
pub mod Walk
pub mod Rounds
