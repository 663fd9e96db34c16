-- The fit, in the order of its steps: normalising, the equations, undoing, the whole. Definitions only.
pub mod Normalize
pub mod Equations
pub mod Undo
pub mod Fit
