-- `lines::Source::write_all` meets its contract: the lines before line k stand at the front, and what comes after them completes the text. Assumes nothing.
use Rattle.report.proofs.Writing.{Filling}
use Rattle.report.proofs.lines.Source.write_all.Given as goal

abbrev pub invariant-loop-k : goal.invariant-loop-k
invariant-loop-k l = Filling l.self.passes l.self.words.now l.self.sheet.now l.initial.out l.out l.at l.k
