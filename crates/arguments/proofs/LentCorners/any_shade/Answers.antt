-- `LentCorners::any_shade` meets its contract: what stands past the corners is not looked at. Assumes nothing.
use mathlib.Core.Path.{◌∙◌}
use Rattle.arguments.proofs.HoldingShades.{any_of_front}
use Rattle.arguments.proofs.LentCorners.any_shade.Goals as goal

pub returns : goal.returns
returns c = c.any_shade.ensures ∙ any_of_front _ _ c.requires
