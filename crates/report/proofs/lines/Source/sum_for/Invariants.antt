-- `lines::Source::sum_for` meets its contract: the sums over the outcomes before number k. Assumes nothing.
use Rattle.report.proofs.Sums.{Summing}
use Rattle.report.proofs.lines.Source.sum_for.Given as goal

abbrev pub invariant-loop-k : goal.invariant-loop-k
invariant-loop-k l = Summing l.role l.self.words.now l.k l.sum
