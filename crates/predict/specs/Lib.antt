-- The definitions of prediction. Definitions only.
pub mod Predict
