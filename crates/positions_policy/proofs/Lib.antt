-- The search of the loop, the laws of the verdict that other crates cite, and a computed example. Assumes nothing.
pub mod Search
pub mod Laws
pub mod Examples
