-- `grow_extend::Growing::attach_corner` meets its contract: sheet, label box, attached list, queue and counts are those of the definition.
-- Assumes nothing.
use mathlib.Core.Path.{refl, ap, ◌∙◌}
use native.Mathlib.Omega.{arith}
use lib.ListN.{length-set}
use Rattle.sheet.proofs.Laws.{place_in}
use Rattle.passes.specs.declared.Counts.{Counts}
use Rattle.grow_extend.proofs.Laws.{given_more, boxed_more, tied_more, settled_attached}
use Rattle.grow_extend.proofs.Growing.attach_corner.Goals as goal

pub overflow_cast-self : goal.overflow_cast-self
overflow_cast-self c = omega (arith, c.place_of.ensures, place_in _ c.requires.attaching.on)

pub invariant_of-self-2-clause-given : goal.invariant_of-self-2-clause-given
invariant_of-self-2-clause-given c = rw c.attach.ensures (given_more c.requires)

pub invariant_of-self-2-clause-boxed : goal.invariant_of-self-2-clause-boxed
invariant_of-self-2-clause-boxed c = rw c.attach.ensures (c.widen-self.ensures ∙ boxed_more c.requires)

pub invariant_of-self-2-clause-tied : goal.invariant_of-self-2-clause-tied
invariant_of-self-2-clause-tied c = rw c.attach.ensures (tied_more c.requires)

pub invariant_of-self-2-clause-within : goal.invariant_of-self-2-clause-within
invariant_of-self-2-clause-within c = let g = c.args.self.now in omega (arith, c.requires.spare.attached_room, ap (λ (n : Counts). n.attached) c.one_more-self.ensures, length-set g.attached.now g.counts.attached c.place_of.result)

pub returns : goal.returns
returns c =
    settled_attached c.requires
    (record { same_corners = refl; same_setup = refl; same_sheet = refl; same_list = refl })
    c.attach.ensures c.place_of.ensures refl c.enqueue_cardinal_neighbours.ensures c.one_more-self.ensures
