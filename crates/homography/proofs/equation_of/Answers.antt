-- `homography::equation_of` meets its contract. Assumes nothing.
use borrow.Author.Tests.{eq-eqb, ne_eqb}
use Rattle.homography.specs.Equations.{equation}
use Rattle.homography.proofs.equation_of.Goals as goal

pub returns-then-i-eq0 : goal.returns-then-i-eq0
unfolding equation
returns-then-i-eq0 c = rw (eq-eqb _ _ c.if-i-eq0.true)

pub returns-else-i-eq0 : goal.returns-else-i-eq0
unfolding equation
returns-else-i-eq0 c = rw (ne_eqb _ _ c.if-i-eq0.false)
