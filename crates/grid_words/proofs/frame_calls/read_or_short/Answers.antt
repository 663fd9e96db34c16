-- `frame_calls::read_or_short` meets its contract: what the reader says fits into words. Assumes nothing.
use Rattle.std.proofs.lemmas.Result.{err_from_is_err_and}
use Rattle.grid_words.proofs.Frames.{sayable}
use Rattle.grid_words.proofs.frame_calls.read_or_short.Goals as goal

pub returns-in_err-head-clause-line : goal.returns-in_err-head-clause-line
returns-in_err-head-clause-line c =
    let p = err_from_is_err_and c.from_residual.result c.from_residual.ensures.1 in
    rw (p.1, p.2) (sayable _ _ c.in_err-head.ensures.passes_after)

pub enter-requires-clause-word : goal.enter-requires-clause-word
enter-requires-clause-word c = (sayable _ _ c.in_ok-head.ensures.passes_after).0

pub enter-requires-2-clause-word : goal.enter-requires-2-clause-word
enter-requires-2-clause-word c = (sayable _ _ c.in_ok-head.ensures.passes_after).1
