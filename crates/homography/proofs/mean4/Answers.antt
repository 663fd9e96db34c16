-- `homography::mean4` meets its contract: the numbers are summed in their order, from 0. Assumes nothing.
use mathlib.Core.Path.{ap, ◌∙◌}
use lib.Ieee.{Float}
use Rattle.std.proofs.Common.{rules}
use Rattle.std.proofs.lemmas.Iterator.{YieldsList-from_slice}
use Rattle.std.proofs.lemmas.Iterator.Consumers.{fold_from_yields_List}
use Rattle.elimination.specs.Rounded.{◌⊕◌, ◌⊘◌}
use Rattle.homography.specs.Normalize.{four}
use Rattle.homography.proofs.Normalizing.{summed}
use Rattle.homography.proofs.mean4.Goals as goal

pub returns : goal.returns
returns c =
    ap (λ (x : Float). x ⊘ four) (fold_from_yields_List _ (λ (a x : Float). a ⊕ x) _ c.fold.result c.fold.ensures.ran (YieldsList-from_slice c.args.numbers cc) (λ a x b q k. search rules))
    ∙ summed c.args.numbers (search rules)
