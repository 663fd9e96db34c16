-- `homography::scaled` meets its contract: a small last entry, or the quotients where they are finite. Assumes nothing.
use mathlib.Core.Path.{sym, ap, ◌∙◌}
use lib.Ieee.{Float, lt}
use Rattle.homography.specs.Normalize.{tiny}
use Rattle.homography.proofs.Fitting.{scaled_small, scaled_is}
use Rattle.homography.proofs.scaled.Goals as goal

pub returns-then-magnitude : goal.returns-then-magnitude
returns-then-magnitude c = scaled_small _ (ap (λ (x : Float). lt x tiny) (sym c.magnitude.ensures) ∙ c.if-magnitude.true)

pub returns : goal.returns
returns c = c.then_some.ensures ∙ scaled_is _ _ _ (ap (λ (x : Float). lt x tiny) (sym c.magnitude.ensures) ∙ c.if-magnitude.false) c.divided-q.ensures c.values_finite.ensures
