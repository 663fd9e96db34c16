-- `homography::apply` meets its contract. Assumes nothing.
use Rattle.homography.specs.Fit.{applied}
use Rattle.homography.proofs.apply.Goals as goal

pub returns : goal.returns
unfolding applied
returns c = rw (c.map_row-w.ensures, c.map_row.ensures, c.map_row-2.ensures)
