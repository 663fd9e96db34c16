pub mod TryCell
