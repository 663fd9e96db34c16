-- The laws of the fit, in the order of its steps. `Laws` has those for users of the crate. Assumes nothing.
pub mod Normalizing
pub mod Equating
pub mod Undoing
pub mod Fitting
pub mod Laws
pub mod Examples
