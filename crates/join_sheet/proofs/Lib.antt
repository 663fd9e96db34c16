-- Laws of the join as the code has it: that it is the join of the lists, walks over the second set's array, one label more in it, and the label
-- box that is kept beside the sheet.
pub mod Held
pub mod Walk
pub mod OneMore
pub mod Around
