-- `homography::backward` meets its contract. Assumes nothing.
use mathlib.Core.Path.{refl}
use Rattle.homography.specs.Undo.{backward}
use Rattle.homography.proofs.backward.Goals as goal

pub returns : goal.returns
unfolding backward
returns c = refl
