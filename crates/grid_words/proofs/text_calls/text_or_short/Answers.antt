-- `text_calls::text_or_short` meets its contract: the length of the text fits into a word. Assumes nothing.
use Rattle.grid_words.proofs.Texts.{text_word}
use Rattle.grid_words.proofs.text_calls.text_or_short.Goals as goal

pub enter-requires-clause-word : goal.enter-requires-clause-word
enter-requires-clause-word c = text_word _ _ _ c.in_ok-bytes.ensures.out_after
