-- `homography::undo` meets its contract. Assumes nothing.
use Rattle.homography.specs.Undo.{undone}
use Rattle.homography.proofs.undo.Goals as goal

pub returns : goal.returns
unfolding undone
returns c = rw (c.multiply.ensures, c.forward.ensures, c.multiply-h.ensures, c.with_one.ensures, c.backward.ensures)
