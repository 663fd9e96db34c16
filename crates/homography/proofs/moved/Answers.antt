-- `homography::moved` meets its contract. Assumes nothing.
use Rattle.homography.specs.Normalize.{moved}
use Rattle.homography.proofs.moved.Goals as goal

pub returns : goal.returns
unfolding moved
returns c = rw (c.map_row.ensures, c.map_row-2.ensures)
