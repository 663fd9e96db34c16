-- What is compared of two runs, and the claim that they agree. Definitions only.
pub mod Agreement
