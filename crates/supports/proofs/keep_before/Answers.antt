-- `supports::keep_before` meets its contract: of the places passed on the way back the nearest four are kept, and those not reached are farther. Assumes nothing.
use Rattle.std.proofs.Common.{◌∙◌, ap}
use Rattle.std.specs.Iterator.Adapters.{rev_source}
use Rattle.std.specs.Slice.Iter.{iter_rest}
use Rattle.supports.proofs.Outward.{backing_start, backing_more, backing_stop}
use Rattle.supports.proofs.keep_before.Goals as goal

pub loop-place-init : goal.loop-place-init
loop-place-init c = backing_start (ap (λ s. iter_rest (rev_source s)) c.into_iter-place-iterator.ensures.into_iter_gives ∙ ap iter_rest c.rev-place-items.ensures.source ∙ c.iter.ensures.rest)

pub loop-place-preserved : goal.loop-place-preserved
loop-place-preserved c = backing_more c.requires c.loop-place.invariant _ _ c.in-Some.ensures.steps c.from-place.ensures c.support_of.ensures c.keep_earlier-kept.ensures

pub returns-then-far_before : goal.returns-then-far_before
returns-then-far_before c = backing_stop c.requires c.loop-place.invariant _ _ c.in-Some.ensures.steps c.from-place.ensures c.row_of-row.ensures c.far_before.ensures c.if-far_before.true
