-- `grow_extend::Growing::run` meets its contract. The loop's invariant: what is held is a state of the definition's run, and with the cells that
-- are left it is what it shall be. The measure is what is left of 4,096 cells, four a corner. Assumes nothing.
use Prim.Native.Nat.{◌-◌}
use Rattle.grow_extend.proofs.Laws.{Running}
use Rattle.grow_extend.proofs.Growing.run.Given as goal

abbrev pub invariant-loop-c : goal.invariant-loop-c
invariant-loop-c l = Running l.fn.self l.fn.queue l.self l.queue

abbrev pub decreases-loop-c : goal.decreases-loop-c
decreases-loop-c l = 4096 - l.queue.head
