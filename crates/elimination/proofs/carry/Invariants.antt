-- `elimination::carry` meets its contract. The loop's invariant: the right sides passed are carried on, and the others are as they were. Assumes nothing.
use Rattle.elimination.proofs.Rows.{Carrying}
use Rattle.elimination.proofs.carry.Given as goal

abbrev pub invariant-loop-i : goal.invariant-loop-i
invariant-loop-i l = Carrying l.m l.fn.b l.k l.y-items l.i
