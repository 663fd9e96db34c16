-- `LentCorners::corner` meets its contract. Assumes nothing.
use mathlib.Core.Path.{sym}
use Rattle.sheet.proofs.Corners as corners
use Rattle.arguments.proofs.LentCorners.corner.Goals as goal

pub returns : goal.returns
returns c = sym (corners.listed_corner _ _ c.requires.there)
