-- `grow_extend::Growing::settle` meets its contract, by each of the four results. Assumes nothing.
use mathlib.Core.Path.{refl}
use mathlib.Core.Logic.{inl, inr}
use Rattle.labels.proofs.Used.{tied_ambiguous}
use Rattle.grow_extend.proofs.Laws.{given_ambiguous, boxed_ambiguous, settled_hole, settled_ambiguous, settled_as}
use Rattle.grow_extend.proofs.Growing.settle.Goals as goal

pub invariant_of-self-clause-given : goal.invariant_of-self-clause-given
invariant_of-self-clause-given c = rw c.mark_ambiguous.ensures (given_ambiguous c.args.self.now c.args.c c.requires.on)

pub invariant_of-self-clause-boxed : goal.invariant_of-self-clause-boxed
invariant_of-self-clause-boxed c = rw c.mark_ambiguous.ensures (boxed_ambiguous c.args.self.now c.args.c c.requires.on)

pub invariant_of-self-clause-tied : goal.invariant_of-self-clause-tied
invariant_of-self-clause-tied c = let g = c.args.self.now in rw c.mark_ambiguous.ensures (tied_ambiguous g.sheet.now c.args.c g.given.long c.requires.on g.tied)

pub returns-in-Err-NoCandidates : goal.returns-in-Err-NoCandidates
returns-in-Err-NoCandidates c =
    let m = c.mark_hole.ensures in
    settled_as c.args.c (rw (rw c.in-Err-NoCandidates.is at c.in-Err-NoCandidates.field-0-is) at c.in-Err-NoCandidates.is)
    (settled_hole c.args.queue.now c.args.c (record { same = m.same; same_list = m.same_list }) m.counted (inl refl) m.marked)

pub returns-in-Err-EdgeRejected : goal.returns-in-Err-EdgeRejected
returns-in-Err-EdgeRejected c =
    let m = c.mark_hole-in-Err-EdgeRejected.ensures in
    settled_as c.args.c (rw (rw c.in-Err-EdgeRejected.is at c.in-Err-EdgeRejected.field-0-is) at c.in-Err-EdgeRejected.is)
    (settled_hole c.args.queue.now c.args.c (record { same = m.same; same_list = m.same_list }) m.counted (inr refl) m.marked)

pub returns-in-Err-Ambiguous : goal.returns-in-Err-Ambiguous
returns-in-Err-Ambiguous c =
    settled_ambiguous c.args.queue.now c.args.c (record { same = record { same_corners = refl; same_setup = refl; same_sheet = refl; same_list = refl }; same_list = refl })
    c.one_more-self.ensures (rw (rw c.in-Err-Ambiguous.is at c.in-Err-Ambiguous.field-0-is) at c.in-Err-Ambiguous.is) c.mark_ambiguous.ensures
