-- `labels::mark_used` meets its contract: where nothing is left to note, all corners are noted. Assumes nothing.
use Rattle.labels.proofs.Used.{noted_all}
use Rattle.labels.proofs.mark_used.Goals as goal

pub returns : goal.returns
returns c = noted_all _ _ _ c.in-None.ensures.steps.0 c.loop-word.invariant
