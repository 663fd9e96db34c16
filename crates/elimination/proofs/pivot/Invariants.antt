-- `elimination::pivot` meets its contract. The loop's invariant: the row chosen among those passed. Assumes nothing.
use Rattle.elimination.proofs.Rows.{Chosen}
use Rattle.elimination.proofs.pivot.Given as goal

abbrev pub invariant-loop-i : goal.invariant-loop-i
invariant-loop-i l = Chosen l.m l.k l.b l.i
