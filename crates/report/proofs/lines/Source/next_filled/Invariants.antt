-- `lines::Source::next_filled` meets its contract: all lines passed over are empty. Assumes nothing.
use Prim.Native.Nat.{◌-◌}
use Rattle.report.specs.Asked.{Skipped}
use Rattle.report.proofs.lines.Source.next_filled.Given as goal

abbrev pub invariant-loop-r : goal.invariant-loop-r
invariant-loop-r l = Skipped l.self.passes l.self.words.now l.self.sheet.now l.k l.r

abbrev pub decreases-loop-r : goal.decreases-loop-r
decreases-loop-r l = l.last - l.r
