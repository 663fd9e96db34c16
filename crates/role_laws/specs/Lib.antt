-- The claims on the lines of the roles: where they stand, what they say, what they add up to, and six passes worked out by hand. Definitions only.
pub mod Together
pub mod Every
pub mod Computed
