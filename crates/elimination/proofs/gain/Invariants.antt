-- `elimination::gain` meets its contract. The loop's invariant: the columns up to k are as they were, and those passed have gained. Assumes nothing.
use Rattle.elimination.proofs.Rows.{Gaining}
use Rattle.elimination.proofs.gain.Given as goal

abbrev pub invariant-loop-j : goal.invariant-loop-j
invariant-loop-j l = Gaining l.initial.r l.p l.w l.k l.r l.j
