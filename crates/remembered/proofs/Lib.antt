-- Laws of what local remembers of a cell.
pub mod Words
pub mod Notes
pub mod Larger
pub mod Visits
pub mod Made
pub mod Supported
pub mod Missed
pub mod Alike
pub mod Attach
