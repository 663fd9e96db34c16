-- `Seeing::at` meets its contract: the corner of the cell's label is given. Assumes nothing.
use mathlib.Core.Path.{sym, ◌∙◌}
use Rattle.sheet.proofs.Corners.{label_known}
use Rattle.sheet.proofs.Seeing.at.Goals as goal

pub corner_at-requires : goal.corner_at-requires
corner_at-requires c = label_known c.args.self.given c.args.c _ (sym c.label_at.ensures ∙ c.in_ok-k.was)
