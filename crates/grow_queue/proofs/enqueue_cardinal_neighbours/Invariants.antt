-- `grow_queue::enqueue_cardinal_neighbours` meets its contract. The loop's invariant: what is queued so far, with the neighbours that are
-- left, is what it shall be. Assumes nothing.
use Rattle.grow_queue.proofs.Laws.{Spreading}
use Rattle.grow_queue.proofs.enqueue_cardinal_neighbours.Given as goal

abbrev pub invariant-loop-offset : goal.invariant-loop-offset
invariant-loop-offset l = Spreading l.sheet l.c l.initial.queue l.tail l.queue l.seen l.end l.offset-index
