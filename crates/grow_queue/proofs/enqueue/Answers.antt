-- `grow_queue::enqueue` meets its contract, by whether the cell is wanted. Assumes nothing.
use mathlib.Core.Path.{◌≡◌, sym, ◌∙◌}
use mathlib.Core.Bool.{true}
use Prim.Native.Nat.{◌<◌}
use native.Mathlib.Omega.{arith}
use Rattle.passes.specs.Grow.{wanted}
use Rattle.grow_queue.specs.Places.{so_far}
use Rattle.grow_queue.proofs.Laws.{wanted_on, wanted_below, places_wanted, places_unwanted}
use Rattle.grow_queue.proofs.enqueue.Goals as goal
use Rattle.grow_queue.proofs.enqueue.Goals.{Then-wants, After-place_of-place}

here : (c : Then-wants) → wanted c.args.sheet.now (so_far c.args.queue.now c.args.tail) c.args.c ≡ true
here c = sym (c.wants.ensures _ c.requires.flagged) ∙ c.if-wants.true

below : (c : After-place_of-place) → c.place_of-place.result < 16384
below c = wanted_below c.args.sheet.now (so_far c.args.queue.now c.args.tail) c.args.c (here (goal.at.After-place_of-place c).Then-wants) c.place_of-place.ensures

pub place_of-place-requires : goal.place_of-place-requires
place_of-place-requires c = wanted_on c.args.sheet.now (so_far c.args.queue.now c.args.tail) c.args.c (here (goal.at.place_of-place-requires c).Then-wants)

pub overflow_cast-queue : goal.overflow_cast-queue
overflow_cast-queue c = omega (arith, below (goal.at.overflow_cast-queue c).After-place_of-place)

pub bounds-seen-place : goal.bounds-seen-place
bounds-seen-place c = below (goal.at.bounds-seen-place c).After-place_of-place

pub returns-then-wants : goal.returns-then-wants
returns-then-wants c = places_wanted _ c.requires (here (goal.at.returns-then-wants c).Then-wants) c.place_of-place.ensures

pub returns-else-wants : goal.returns-else-wants
returns-else-wants c = places_unwanted _ c.requires (sym (c.wants.ensures _ c.requires.flagged) ∙ c.if-wants.false)
