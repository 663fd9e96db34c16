-- `elimination::clear` meets its contract. The loop's invariant: the rows passed have gained, and the others are as they were. Assumes nothing.
use Rattle.elimination.proofs.Rows.{ClearingBelow}
use Rattle.elimination.proofs.clear.Given as goal

abbrev pub invariant-loop-row : goal.invariant-loop-row
invariant-loop-row l = ClearingBelow l.fn.m l.k l.row-items l.row-index
