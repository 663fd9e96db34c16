pub mod Refusal
pub mod Said
