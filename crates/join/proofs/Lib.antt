-- Laws of the join of two patches: tests over lists, what each verdict means, the union, the join, corners numbered otherwise, the sheet of a set,
-- examples.
pub mod Lists
pub mod Meaning
pub mod Union
pub mod Join
pub mod Renumbering
pub mod Sets
pub mod Examples
