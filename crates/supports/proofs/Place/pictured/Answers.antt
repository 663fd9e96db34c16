-- `supports::Place::pictured` meets its contract: by what is seen. Assumes nothing.
use lib.Ieee.{of_bits}
use Rattle.supports.proofs.Fitted.{pictured_none, pictured_corner}
use Rattle.supports.proofs.Place.pictured.Goals as goal

pub returns-in-None : goal.returns-in-None
unfolding of_bits
returns-in-None c = pictured_none _ _ c.cell_of.ensures c.at.ensures c.in-None.is

pub returns-in-Some : goal.returns-in-Some
returns-in-Some c = pictured_corner _ _ c.cell_of.ensures c.at.ensures c.in-Some.is
