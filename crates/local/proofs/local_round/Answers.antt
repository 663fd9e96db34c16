-- `local::local_round` meets its contract: at each place of the window the buffers hold what the round's list leaves after the places passed, and what
-- is remembered holds; those out of the window are jumped over. Assumes nothing.
use mathlib.Core.Path.{refl, sym, ◌∙◌}
use native.Mathlib.Omega.{arith}
use Rattle.local.proofs.Walk.{same_then, walking_start, walking_missed, walking_jumps, tried_trying, walking_tried, walking_end}
use Rattle.local.proofs.local_round.Goals as goal

pub loop-place-init : goal.loop-place-init
loop-place-init c =
    let s = c.places-place-items.ensures in
    rw c.into_iter-place-iterator.ensures.into_iter_gives
    (record {
      window_is = s.window_is;
      walking = rw s.from_is (walking_start c.args.work.now.setup.corners.now.count.few);
      recalls = c.requires.recalls;
      same = record { same_setup = refl; same_sheet = refl; same_list = refl; same_labelled = refl; same_memory = refl };
    })

pub try_local_cell-requires-clause-trying : goal.try_local_cell-requires-clause-trying
try_local_cell-requires-clause-trying c =
    let i = c.loop-place.invariant in
    let s = c.in-Some.ensures.steps in
    tried_trying c.round_of-round.ensures (walking_jumps c.round_of-round.ensures i.walking (rw i.window_is at s.0)) s.1 (sym c.is_tried.ensures ∙ c.if-is_tried.true) c.cell_of.ensures c.requires.asked.countable

pub loop-place-preserved-then-is_tried : goal.loop-place-preserved-then-is_tried
loop-place-preserved-then-is_tried c =
    let i = c.loop-place.invariant in
    let s = c.in-Some.ensures.steps in
    record {
      window_is = s.2.window_is ∙ i.window_is;
      walking =
          rw s.2.from_is
          (walking_tried c.round_of-round.ensures (walking_jumps c.round_of-round.ensures i.walking (rw i.window_is at s.0)) s.1 (sym c.is_tried.ensures ∙ c.if-is_tried.true) c.cell_of.ensures
          (rw i.same.same_setup at c.try_local_cell.ensures.left));
      recalls = c.try_local_cell.ensures.recalls;
      same = same_then i.same c.try_local_cell.ensures.same;
    }

pub loop-place-preserved : goal.loop-place-preserved
loop-place-preserved c =
    let i = c.loop-place.invariant in
    let s = c.in-Some.ensures.steps in
    record {
      window_is = s.2.window_is ∙ i.window_is;
      walking =
          rw s.2.from_is
          (walking_missed c.round_of-round.ensures (walking_jumps c.round_of-round.ensures i.walking (rw i.window_is at s.0)) s.1 (sym c.is_tried.ensures ∙ c.if-is_tried.false));
      recalls = i.recalls;
      same = i.same;
    }

pub returns-clause-left : goal.returns-clause-left
returns-clause-left c = let i = c.loop-place.invariant in walking_end (walking_jumps c.round_of-round.ensures i.walking (rw i.window_is at c.in-None.ensures.steps)) (omega arith)
