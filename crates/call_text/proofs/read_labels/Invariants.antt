-- `call_text::read_labels` is safe: the sheet keeps its length. Assumes nothing.
use mathlib.Core.Path.{◌≡◌}
use lib.ListN.{length}
use Rattle.call_text.proofs.read_labels.Given as goal

abbrev pub invariant-loop-at : goal.invariant-loop-at
invariant-loop-at l = 16384 ≡ length l.sheet
