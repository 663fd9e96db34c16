-- `homography::points_finite` meets its contract: a test of each point. Assumes nothing.
use mathlib.Core.Path.{◌∙◌}
use lib.Ieee.{nan}
use Rattle.std.proofs.Common.{rules, tests}
use Rattle.std.proofs.lemmas.Iterator.{YieldsList-from_slice}
use Rattle.std.proofs.lemmas.Iterator.Search.{all_from_yields_List}
use Rattle.sheet.specs.Corners.{finite_position}
use Rattle.elimination.proofs.Tables.{all_is_every}
use Rattle.homography.proofs.points_finite.Goals as goal

pub returns : goal.returns
returns c =
    all_from_yields_List finite_position _ _ _ c.all.ensures.ran (YieldsList-from_slice c.args.points cc) (λ x b q k. search (rules, tests))
    ∙ all_is_every finite_position (record { x = nan; y = nan }) 4 c.args.points (search rules)
