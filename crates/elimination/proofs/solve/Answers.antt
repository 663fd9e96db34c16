-- `elimination::solve` meets its contract. Assumes nothing.
use Rattle.elimination.proofs.Sound.{solved_ok, solved_err}
use Rattle.elimination.proofs.solve.Goals as goal

pub returns-then-counts : goal.returns-then-counts
returns-then-counts c = solved_ok _ _ _ _ c.eliminate.ensures c.substitute-x.ensures c.counts.ensures c.if-counts.true

pub returns-else-counts : goal.returns-else-counts
returns-else-counts c = solved_err _ _ _ _ c.eliminate.ensures c.substitute-x.ensures c.counts.ensures c.if-counts.false
