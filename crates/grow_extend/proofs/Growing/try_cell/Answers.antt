-- `grow_extend::Growing::try_cell` meets its contract: the cell is tried at its prediction. Assumes nothing.
use Rattle.sheet.specs.Corners.{corner_in}
use Rattle.grow_extend.proofs.Laws.{found_at_lem}
use Rattle.grow_extend.proofs.Growing.try_cell.Goals as goal

pub returns : goal.returns
returns c = found_at_lem _ _ _ _ _ (c.is_extrapolating.ensures (corner_in c.args.self.now.corners.now)) c.search.ensures c.tolerances_of.ensures c.try_predicted.ensures
