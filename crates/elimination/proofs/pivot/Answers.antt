-- `elimination::pivot` meets its contract. The loop's invariant: the row chosen among those passed. Assumes nothing.
use borrow.Author.Rules.{rules}
use Rattle.elimination.proofs.Rows.{chosen_start, chosen_more}
use Rattle.elimination.proofs.pivot.Goals as goal

pub loop-i-init : goal.loop-i-init
loop-i-init c = chosen_start _ _ (search rules)

pub loop-i-preserved : goal.loop-i-preserved
loop-i-preserved c = chosen_more _ _ _ _ _ c.loop-i.invariant c.loop-i-test.true c.larger-b.ensures
