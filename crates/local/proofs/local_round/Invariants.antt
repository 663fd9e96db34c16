-- `local::local_round` meets its contract: at each place of the window the buffers hold what the round's list leaves after the places passed, and what
-- is remembered holds; those out of the window are jumped over. Assumes nothing.
use mathlib.Core.Path.{◌≡◌}
use Rattle.local_cell.specs.Work.{held, SamePass, RecallsIn}
use Rattle.local.proofs.Walk.{Walking}
use Rattle.local.proofs.local_round.Given as goal

abbrev pub invariant-loop-place : goal.invariant-loop-place
invariant-loop-place l = record {
  window_is : l.place-iterator.window ≡ l.round.window;
  walking : Walking l.fn.work.setup.settings l.fn.work.setup.params (held l.fn.work) l.fn.work l.work l.place-iterator.from;
  recalls : RecallsIn l.work;
  same : SamePass l.fn.work l.work;
}
