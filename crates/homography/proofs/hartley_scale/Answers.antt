-- `homography::hartley_scale` meets its contract: the constant is the root of two. Assumes nothing.
use mathlib.Core.Path.{sym, ap}
use lib.Ieee.{Float, binary32, div}
use Rattle.homography.specs.Normalize.{scale_of}
use Rattle.homography.proofs.Normalizing.{root_two}
use Rattle.homography.proofs.hartley_scale.Goals as goal

pub returns-then-mean_dist : goal.returns-then-mean_dist
unfolding scale_of
returns-then-mean_dist c = rw c.if-mean_dist.true (ap (λ (r : Float). div binary32 r c.args.mean_dist) (sym root_two))

pub returns-else-mean_dist : goal.returns-else-mean_dist
unfolding scale_of
returns-else-mean_dist c = rw c.if-mean_dist.false
