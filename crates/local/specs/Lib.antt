-- The definitions of what local's functions of a round and of all rounds ask and leave. Definitions only.
pub mod Rounds
