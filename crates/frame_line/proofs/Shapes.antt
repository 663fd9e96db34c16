-- The row of a kind, and the words of its numbers, as other crates cite them.
pub use Rattle.frame_line.proofs.Numbers.{row_of, row_of_lem, bits_held, whole_held}
