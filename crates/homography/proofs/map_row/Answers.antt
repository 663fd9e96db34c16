-- `homography::map_row` meets its contract. Assumes nothing.
use Rattle.homography.specs.Normalize.{map_row}
use Rattle.homography.proofs.map_row.Goals as goal

pub returns : goal.returns
unfolding map_row
returns c = c.row_sum.ensures
