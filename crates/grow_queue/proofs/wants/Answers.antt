-- `grow_queue::wants` meets its contract, by its three tests. Assumes nothing.
use mathlib.Core.Bool.{not}
use mathlib.Core.Path.{sym, ap, ◌∙◌}
use Prim.Native.Nat.{◌<◌}
use native.Mathlib.Omega.{arith}
use Rattle.grow_queue.proofs.Laws.{place_below, off_unwanted, on_wanted}
use Rattle.grow_queue.proofs.wants.Goals as goal
use Rattle.grow_queue.proofs.wants.Goals.{After-place_of-place}

below : (c : After-place_of-place) → c.place_of-place.result < 16384
below c = place_below c.args.c (sym c.on_sheet.ensures ∙ c.if-on_sheet.true) c.place_of-place.ensures

pub offset_bounds-sheet-place : goal.offset_bounds-sheet-place
offset_bounds-sheet-place c = omega (arith, below c)

pub bounds-sheet-place : goal.bounds-sheet-place
bounds-sheet-place c = omega (arith, below (goal.at.bounds-sheet-place c).After-place_of-place)

pub bounds-seen-place : goal.bounds-seen-place
bounds-seen-place c = below (goal.at.bounds-seen-place c).After-place_of-place

pub returns-then-not-is_labelled : goal.returns-then-not-is_labelled
returns-then-not-is_labelled c = λ cells f. on_wanted c.args.sheet.now c.args.c f (sym c.on_sheet.ensures ∙ c.if-on_sheet.true) c.place_of-place.ensures (sym c.is_labelled.ensures ∙ c.if-not-is_labelled.true)

pub returns-else-not-is_labelled : goal.returns-else-not-is_labelled
returns-else-not-is_labelled c =
    λ cells f. ap not c.if-not-is_labelled.false ∙ on_wanted c.args.sheet.now c.args.c f (sym c.on_sheet.ensures ∙ c.if-on_sheet.true) c.place_of-place.ensures (sym c.is_labelled.ensures ∙ c.if-not-is_labelled.false)

pub returns-else-on_sheet : goal.returns-else-on_sheet
returns-else-on_sheet c = λ cells f. c.if-on_sheet.false ∙ sym (off_unwanted c.args.sheet.now c.args.c cells (sym c.on_sheet.ensures ∙ c.if-on_sheet.false))
