-- The fit as a function for other languages. Definitions only.
pub mod FitCall
