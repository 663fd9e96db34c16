-- `supports::Place::point` meets its contract: a place has a cell of the sheet. Assumes nothing.
use mathlib.Core.Path.{sym, subst}
use Rattle.sheet.specs.Cells.{OnSheet}
use Rattle.sheet.proofs.Laws.{cell_on_lem}
use Rattle.supports.proofs.Place.point.Goals as goal

pub cell_point-requires : goal.cell_point-requires
cell_point-requires c = subst OnSheet (sym c.cell_of.ensures) (cell_on_lem _ c.args.self.on)
