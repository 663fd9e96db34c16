-- `region::lines_of` meets its contract: after some places their lines are marked. Assumes nothing.
use Rattle.std.proofs.Common.{ℕ, ◌<◌, Bool, false}
use Rattle.std.proofs.lemmas.List.{take_all}
use Rattle.std.proofs.lemmas.List.Elements.{All-get_or}
use lib.ListN.{length-replicate, get_or-replicate}
use Rattle.region.proofs.Told.{lines_none, lines_more}
use Rattle.region.proofs.lines_of.Goals as goal
use Rattle.region.proofs.lines_of.Goals.{After-from}

on_sheet : (g : _) (c : After-from g) → c.from.result < 16384
on_sheet g c = rw c.from.ensures (All-get_or (λ (p : ℕ). p < 16384) c.args.places.now c.loop-place.place-index 0 c.loop-place-test.true c.requires.on_sheet)

pub loop-place-init : goal.loop-place-init
loop-place-init g c = λ f h. lines_none f _ (length-replicate {A = Bool} 128 false) (λ r k. get_or-replicate {A = Bool} 128 r false false k)

pub loop-place-preserved : goal.loop-place-preserved
loop-place-preserved g c = λ f h.
    let below = on_sheet g (goal.at.loop-place-preserved g c).After-from in
    lines_more f _ _ _ _ _ c.loop-place-test.true c.from.ensures (h _ _ below c.line.ensures) (c.requires.below _ _ below c.line.ensures) (c.loop-place.invariant f h)

pub returns : goal.returns
returns g c = λ f h. rw (take_all c.loop-place.place-index c.args.places.now c.loop-place-test.false) at (c.loop-place.invariant f h)
