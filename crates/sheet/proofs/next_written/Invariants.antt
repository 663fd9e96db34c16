-- `sheet::next_written` meets its contract: all places passed hold nothing. Assumes nothing.
use Prim.Native.Nat.{◌-◌}
use Rattle.sheet.specs.Blank.{Passed}
use Rattle.sheet.proofs.next_written.Given as goal

abbrev pub invariant-loop-place : goal.invariant-loop-place
invariant-loop-place l = Passed l.sheet l.from l.place

abbrev pub decreases-loop-place : goal.decreases-loop-place
decreases-loop-place l = 16384 - l.place
