-- `elimination::substitute` meets its contract. The loop's invariant: the answers from row k on are carried. Assumes nothing.
use Rattle.elimination.proofs.Rows.{answering_start, answering_more}
use Rattle.elimination.proofs.substitute.Goals as goal

pub loop-k-init : goal.loop-k-init
loop-k-init c = answering_start _ _ c.right_sides-b.ensures

pub loop-k-preserved : goal.loop-k-preserved
loop-k-preserved c = answering_more _ _ _ _ c.loop-k.invariant c.loop-k-test.true c.loop-k.auto.k c.carry.ensures
