-- The answer to a text by the written places of its sheet, 01's example, two texts that differ only in the order of their corner lines, two such texts
-- with shades, two such texts with two patches, and two that differ only in their grow line. Definitions only.
pub mod Answer
pub mod Paper
pub mod Pair
pub mod Claims
pub mod Shaded
pub mod Patched
pub mod Boundary
