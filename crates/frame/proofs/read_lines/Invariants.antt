-- `frame::read_lines` meets its contract: a line a turn, and what is left leads where the whole text does. Assumes nothing.
use Rattle.frame.proofs.Turn.{Turning}
use Rattle.frame.proofs.read_lines.Given as goal

abbrev pub invariant-loop-line : goal.invariant-loop-line
invariant-loop-line l = Turning l.text l.line-iterator.rest.now l.n l.reading
