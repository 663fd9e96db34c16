-- Sheets of which only the written places are kept, the passes and lists of calls on them, and the text of a result. No promise cites them: they serve
-- to compute what the definitions say of an example. Definitions only.
pub mod Written
pub mod Passes
pub mod Run
pub mod Text
