-- `supports::residual_of` meets its contract: the distance, of where the fit maps the cell. Assumes nothing.
use Rattle.passes.specs.Local.{residual_of}
use Rattle.supports.proofs.residual_of.Goals as goal

pub returns : goal.returns
unfolding residual_of
returns c = rw (c.distance.ensures, c.apply.ensures)
