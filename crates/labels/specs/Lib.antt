-- The definitions of what is asked of all labels of a sheet: which cells are labelled, their box, the rim, the used corners.
-- Definitions only.
pub mod Labelled
pub mod Box
pub mod Kept
pub mod Rim
pub mod Used
pub mod Count
