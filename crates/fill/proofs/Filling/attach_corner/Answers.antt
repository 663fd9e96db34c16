-- `fill::Filling::attach_corner` meets its contract: each of the stores as it stands. Assumes nothing.
use mathlib.Core.Path.{◌∙◌}
use native.Mathlib.Omega.{arith}
use Rattle.sheet.proofs.Laws.{place_in}
use Rattle.fill.proofs.Visit.{made_few, taking_room, given_more, one_more, box_more, tied_more, room_more}
use Rattle.fill.proofs.Filling.attach_corner.Goals as goal

pub overflow_cast-self : goal.overflow_cast-self
overflow_cast-self c = omega (arith, c.place_of.ensures, place_in _ c.requires.trying.on)

pub offset_bounds-self-self : goal.offset_bounds-self-self
offset_bounds-self-self c = omega (arith, made_few c.args.self.now, c.args.self.now.corners.now.count.few)

pub bounds-self-self : goal.bounds-self-self
bounds-self-self c = taking_room c.requires

pub overflow_add-self : goal.overflow_add-self
overflow_add-self c = omega (arith, made_few c.args.self.now, c.args.self.now.corners.now.count.few)

pub invariant_of-self-2-clause-given : goal.invariant_of-self-2-clause-given
invariant_of-self-2-clause-given c = rw c.attach.ensures (given_more c.requires)

pub invariant_of-self-2-clause-one_cell : goal.invariant_of-self-2-clause-one_cell
invariant_of-self-2-clause-one_cell c = rw c.attach.ensures (one_more c.requires)

pub invariant_of-self-2-clause-around_is : goal.invariant_of-self-2-clause-around_is
invariant_of-self-2-clause-around_is c = c.widen-self.ensures ∙ rw c.attach.ensures (box_more c.requires)

pub invariant_of-self-2-clause-tied : goal.invariant_of-self-2-clause-tied
invariant_of-self-2-clause-tied c = rw c.attach.ensures (tied_more c.requires)

pub invariant_of-self-2-clause-room : goal.invariant_of-self-2-clause-room
invariant_of-self-2-clause-room c = rw c.attach.ensures (room_more c.requires)
