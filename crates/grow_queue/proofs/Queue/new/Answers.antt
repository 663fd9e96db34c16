-- `grow_queue::Queue::new` meets its contract: no place is queued. Assumes nothing.
use mathlib.Core.Bool.{Bool, false}
use lib.ListN.{length-replicate, get_or-replicate}
use Rattle.passes.specs.Grow.{member}
use Rattle.grow_queue.proofs.Queue.new.Goals as goal

pub invariant_of-result-clause-flagged : goal.invariant_of-result-clause-flagged
unfolding member
invariant_of-result-clause-flagged c = record { size = length-replicate {A = Bool} 16384 false; at = λ p h. get_or-replicate {A = Bool} 16384 p false false h }
