-- `choose_with_floor` meets its contract, by what its closure says of two or more. Assumes nothing.
use Rattle.std.proofs.Common.{rules}
use Rattle.candidates.specs.Choice.{choose_with_floor}
use Rattle.candidates.proofs.Choice.{floor_by}
use Rattle.candidates.proofs.choose_with_floor.Goals as goal

pub returns : goal.returns
unfolding choose_with_floor
returns c = floor_by _ (λ a second r h. search rules) _ c.choose.ensures
