-- `fill::Filling::try_cell` meets its contract: the cell is tried at its prediction. Assumes nothing.
use Rattle.fill.proofs.Visit.{found_tried}
use Rattle.fill.proofs.Filling.try_cell.Goals as goal

pub returns : goal.returns
returns c = found_tried _ _ _ _ _ c.search.ensures c.tolerances_of.ensures c.try_predicted.ensures
