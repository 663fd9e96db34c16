-- `text_calls::piece_or_short` meets its contract: the length of the piece and the next line fit into words. Assumes nothing.
use Rattle.grid_words.proofs.Texts.{piece_words}
use Rattle.grid_words.proofs.text_calls.piece_or_short.Goals as goal

pub enter-requires-clause-word : goal.enter-requires-clause-word
enter-requires-clause-word c = (piece_words _ _ _ _ c.in_ok-at.ensures.out_after).0

pub enter-requires-2-clause-word : goal.enter-requires-2-clause-word
enter-requires-2-clause-word c = (piece_words _ _ _ _ c.in_ok-at.ensures.out_after).1
