pub mod Order
pub mod Unsigned
pub mod Monotone
pub mod Magnitude
pub mod Quotient
