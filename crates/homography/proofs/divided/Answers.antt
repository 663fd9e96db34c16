-- `homography::divided` meets its contract: each entry is divided. Assumes nothing.
use lib.Ieee.{Float, nan}
use Rattle.std.proofs.Common.{rules}
use Rattle.elimination.specs.Rounded.{◌⊘◌}
use Rattle.homography.specs.Fit.{last_of, quotients}
use Rattle.elimination.proofs.Made.{mapped}
use Rattle.homography.proofs.divided.Goals as goal

pub returns : goal.returns
unfolding quotients
returns c = mapped _ _ (λ (x : Float). x ⊘ last_of c.args.h) c.args.h c.map.result nan nan (λ x y q k. search rules) 9 c.map.ensures.items
