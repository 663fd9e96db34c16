-- `grow_queue::Queue::seed` meets its contract. The loop's invariant: the neighbours of the labelled cells that have come so far are queued.
-- Assumes nothing.
use Rattle.grow_queue.specs.Queue.{QueueHeld}
use Rattle.grow_queue.proofs.Laws.{seeds}
use Rattle.grow_queue.proofs.Queue.seed.Given as goal

abbrev pub invariant-loop-place : goal.invariant-loop-place
invariant-loop-place l = QueueHeld l.initial.self l.self (seeds l.sheet l.yielded)
