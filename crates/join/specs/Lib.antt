-- The definitions of the join of two patches: the rule, the join of two lists, the sheet of a set, the refusals. Definitions only.
pub mod Rule
pub mod Join
pub mod Sheets
pub mod Refused
