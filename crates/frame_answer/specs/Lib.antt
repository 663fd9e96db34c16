-- The definitions of what is answered to a text, and that an answer can be said is a fact.
pub mod Room
pub mod Answer
pub mod Raised
pub mod Fact
