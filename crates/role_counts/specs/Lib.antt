-- Counts for each role. Definitions only.
pub mod RoleCounts
