-- `supports::nearest_labelled_by_grid` meets its contract: after some places the nearest four of these are kept, and those not reached are no nearer. Assumes nothing.
use native.Mathlib.Omega.{arith}
use Rattle.sheet.proofs.Laws.{place_in}
use Rattle.supports.proofs.Nearest.{keeping_all}
use Rattle.supports.proofs.Outward.{onward_more, onward_stop, onward_end}
use Rattle.supports.proofs.nearest_labelled_by_grid.Goals as goal

pub far_behind-requires : goal.far_behind-requires
far_behind-requires c = omega (arith, c.row_of-row.ensures, place_in _ c.requires.along.on)

pub loop-place-preserved : goal.loop-place-preserved
loop-place-preserved c = onward_more c.requires.along _ c.split_at.ensures.back _ c.loop-place.invariant c.loop-place-test.true c.from-place.ensures c.support_of.ensures c.keep_support-kept.ensures

pub returns-after-loop-place : goal.returns-after-loop-place
returns-after-loop-place c = keeping_all _ c.requires.four (onward_end c.requires.along _ c.split_at.ensures.back _ c.loop-place.invariant c.loop-place-test.false)

pub returns-then-far_behind : goal.returns-then-far_behind
returns-then-far_behind c = keeping_all _ c.requires.four (onward_stop c.requires.along _ c.split_at.ensures.back _ c.loop-place.invariant c.loop-place-test.true c.from-place.ensures c.row_of-row.ensures c.far_behind.ensures c.if-far_behind.true)
