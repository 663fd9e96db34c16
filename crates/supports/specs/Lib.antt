-- The definitions of the labelled places as a list, of the four that are kept, and of the fit on them as the code answers it. Definitions only.
pub mod Nearest
pub mod Fitted
