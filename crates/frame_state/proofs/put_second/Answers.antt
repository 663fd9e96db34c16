-- `frame_state::put_second` meets its contract: the cell's place is one of the sheet. Assumes nothing.
use native.Mathlib.Omega.{arith}
use Rattle.sheet.proofs.Laws.{place_in}
use Rattle.frame_state.proofs.put_second.Goals as goal

pub overflow_cast-held-2 : goal.overflow_cast-held-2
overflow_cast-held-2 c = omega (arith, c.place_of.ensures, place_in _ c.requires.fits.on)
