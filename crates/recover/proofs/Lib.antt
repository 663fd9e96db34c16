-- Laws of a run.
pub mod Printed
