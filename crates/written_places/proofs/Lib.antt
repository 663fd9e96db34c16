-- The laws of sheets with few written places: the passes, lists of calls and the text of a result on them are those of the definitions.
-- Assumes nothing.
pub mod Written
pub mod Passes
pub mod Run
pub mod Text
