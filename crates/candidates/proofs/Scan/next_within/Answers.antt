-- `Scan::next_within` meets its contract. The loop's invariant: no corner passed is a candidate. The measure is what is left of the corners. Assumes nothing.
use mathlib.Core.Path.{sym, ◌∙◌}
use Rattle.std.proofs.Common.{arith}
use Rattle.candidates.proofs.Scanning.{block_passed}
use Rattle.candidates.proofs.Scan.next_within.Goals as goal

pub loop-k-preserved : goal.loop-k-preserved
loop-k-preserved c = let g = c.loop-k.invariant in record { on = omega (arith, g.on); within = omega arith; none = block_passed _ _ _ _ _ _ g.none (sym c.count_near.ensures ∙ c.if-count_near-eq0.true) }
