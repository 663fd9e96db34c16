-- `local::round_of` meets its contract: the labelled places are of the sheet, and so is the kept box. Assumes nothing.
use Rattle.region.proofs.Jumps.{box_on}
use Rattle.local.proofs.Walk.{listed}
use Rattle.local.proofs.round_of.Goals as goal

pub rows_of-requires : goal.rows_of-requires
rows_of-requires c = rw c.as_slice-labelled.ensures (listed _ c.args.work.now.extending.places_are)

pub columns_of-requires : goal.columns_of-requires
columns_of-requires c = rw c.as_slice-labelled.ensures (listed _ c.args.work.now.extending.places_are)

pub window_of-requires : goal.window_of-requires
window_of-requires c = rw c.args.work.now.extending.around_is (box_on _)
