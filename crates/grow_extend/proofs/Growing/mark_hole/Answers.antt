-- `grow_extend::Growing::mark_hole` meets its contract: what is given, the label box and what is used stay so, and no corner is counted.
-- Assumes nothing.
use Rattle.labels.proofs.Used.{tied_hole}
use Rattle.grow_extend.proofs.Laws.{given_hole, boxed_hole, none_counts}
use Rattle.grow_extend.proofs.Growing.mark_hole.Goals as goal

pub invariant_of-self-clause-given : goal.invariant_of-self-clause-given
invariant_of-self-clause-given c = rw c.mark_hole.ensures (given_hole c.args.self.now c.args.c c.requires.on)

pub invariant_of-self-clause-boxed : goal.invariant_of-self-clause-boxed
invariant_of-self-clause-boxed c = rw c.mark_hole.ensures (boxed_hole c.args.self.now c.args.c c.requires.on)

pub invariant_of-self-clause-tied : goal.invariant_of-self-clause-tied
invariant_of-self-clause-tied c = let g = c.args.self.now in rw c.mark_hole.ensures (tied_hole g.sheet.now c.args.c g.given.long c.requires.on g.tied)

pub invariant_of-self-clause-within : goal.invariant_of-self-clause-within
invariant_of-self-clause-within c = rw (c.one_more-self.ensures, none_counts c.args.why c.args.self.now.counts) c.args.self.now.within
