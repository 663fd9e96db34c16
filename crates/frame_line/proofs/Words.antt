-- What the words of a line say, as other crates cite it.
pub use Rattle.frame_line.proofs.Said.{Count, counted, tame_count, word_tame, label_on, corner_known, kind_known, counts_alike}
