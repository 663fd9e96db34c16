-- `frame_check::Said::label_twice` meets its contract: the cell's place is one of the sheet. Assumes nothing.
use native.Mathlib.Omega.{arith}
use Rattle.sheet.proofs.Laws.{place_in}
use Rattle.frame_check.proofs.Said.label_twice.Goals as goal

pub overflow_cast-place : goal.overflow_cast-place
overflow_cast-place c = omega (arith, c.place_of-place.ensures, place_in _ c.requires.on)

pub offset_bounds-held-place : goal.offset_bounds-held-place
offset_bounds-held-place c = omega (arith, c.place_of-place.ensures, place_in _ c.requires.on)

pub bounds-held-place : goal.bounds-held-place
bounds-held-place c = omega (arith, c.place_of-place.ensures, place_in _ c.requires.on)
