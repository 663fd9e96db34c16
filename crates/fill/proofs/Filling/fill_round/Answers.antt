-- `fill::Filling::fill_round` meets its contract. Assumes nothing.
use native.Mathlib.Omega.{arith}
use Rattle.region.proofs.Jumps.{box_on}
use Rattle.fill.proofs.Walk.{walking_start, walking_more, walking_jumps, walking_end}
use Rattle.fill.proofs.Filling.fill_round.Goals as goal

pub window_of-window-requires : goal.window_of-window-requires
window_of-window-requires c = rw c.args.self.now.around_is (box_on _)

pub loop-place-init : goal.loop-place-init
loop-place-init c =
    let s = c.places-place-items.ensures in
    rw c.into_iter-place-iterator.ensures.into_iter_gives
    (record { windowed = rw s.window_is c.window_of-window.ensures; walking = rw s.from_is (walking_start c.args.self.now) })

pub loop-place-preserved : goal.loop-place-preserved
loop-place-preserved c =
    let i = c.loop-place.invariant in
    let s = c.in-Some.ensures.steps in
    record {
      windowed = rw s.2.window_is i.windowed;
      walking =
          rw s.2.from_is
          (walking_more c.args.self.now (walking_jumps c.args.self.now c.loop-place.self _ _ c.args.self.now.around_is i.windowed i.walking s.0) _ s.1
          c.args.self.now.around_is c.fill_place.ensures);
    }

pub returns : goal.returns
returns c =
    let i = c.loop-place.invariant in
    walking_end c.args.self.now (walking_jumps c.args.self.now c.loop-place.self _ _ c.args.self.now.around_is i.windowed i.walking c.in-None.ensures.steps) (omega arith)
