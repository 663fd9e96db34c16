-- `homography::forward` meets its contract. Assumes nothing.
use mathlib.Core.Path.{refl}
use Rattle.homography.specs.Normalize.{forward}
use Rattle.homography.proofs.forward.Goals as goal

pub returns : goal.returns
unfolding forward
returns c = refl
