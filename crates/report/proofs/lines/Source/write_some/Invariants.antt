-- `lines::Source::write_some` meets its contract: the lines up to line k stand at the front, and the rest of the piece starts there. Assumes nothing.
use Prim.Native.Nat.{◌-◌}
use Rattle.report.proofs.Writing.{Cutting}
use Rattle.report.proofs.lines.Source.write_some.Given as goal

abbrev pub invariant-loop-k : goal.invariant-loop-k
invariant-loop-k l = Cutting l.self.passes l.self.words.now l.self.sheet.now l.from l.initial.out l.out l.at l.k

abbrev pub decreases-loop-k : goal.decreases-loop-k
decreases-loop-k l = l.count - l.k
