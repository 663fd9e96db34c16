-- `lines::Source::next_filled` meets its contract: all lines passed over are empty. Assumes nothing.
use native.Mathlib.Omega.{arith}
use Rattle.report.proofs.Blank.{skip_lines}
use Rattle.report.proofs.lines.Source.next_filled.Goals as goal

pub loop-r-preserved : goal.loop-r-preserved
loop-r-preserved c = skip_lines _ _ _ _ _ _ _ c.loop-r.invariant c.blank_lines-n.ensures (omega arith) (omega arith) (omega arith)
