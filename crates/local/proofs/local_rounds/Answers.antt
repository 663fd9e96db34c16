-- `local::local_rounds` meets its contract: after each round the rounds that are left lead to the same end, and what is remembered holds. Assumes nothing.
use Rattle.local.proofs.Walk.{same_then}
use Rattle.local.proofs.Rounds.{rounding_last, rounding_more, rounding_end}
use Rattle.local.proofs.local_rounds.Goals as goal

pub returns-then-work-before-clause-left : goal.returns-then-work-before-clause-left
returns-then-work-before-clause-left c = rounding_last c.loop-rounds.invariant.0 _ c.loop-rounds-test.true (rw c.loop-rounds.invariant.2.same_setup at c.local_round.ensures.left) c.if-work-before.true

pub loop-rounds-preserved : goal.loop-rounds-preserved
loop-rounds-preserved c = (rounding_more c.loop-rounds.invariant.0 _ c.loop-rounds-test.true (rw c.loop-rounds.invariant.2.same_setup at c.local_round.ensures.left) c.if-work-before.false, c.local_round.ensures.recalls, same_then c.loop-rounds.invariant.2 c.local_round.ensures.same)

pub returns-clause-left : goal.returns-clause-left
returns-clause-left c = rounding_end c.loop-rounds.invariant.0 c.loop-rounds-test.false c.loop-rounds.auto.rounds-end
