-- `supports::Place::support_of` meets its contract: cells of the sheet are near each other. Assumes nothing.
use mathlib.Core.Path.{sym, subst}
use Rattle.sheet.specs.Cells.{NearSheet, Within}
use Rattle.sheet.proofs.Laws.{cell_on_lem, on_near, difference_within}
use Rattle.supports.proofs.Place.support_of.Goals as goal

pub difference-o-requires : goal.difference-o-requires
difference-o-requires c = (subst NearSheet (sym c.cell_of.ensures) (on_near _ (cell_on_lem _ c.args.self.on)), on_near _ c.requires)

pub magnitude-requires : goal.magnitude-requires
magnitude-requires c = subst (Within 1000) (sym c.difference-o.ensures) (difference_within _ _ (subst NearSheet (sym c.cell_of.ensures) (on_near _ (cell_on_lem _ c.args.self.on))) (on_near _ c.requires))
