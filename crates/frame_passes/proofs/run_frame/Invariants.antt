-- `run_frame` meets its contract: a pass a turn, what is left to do leads to the same end, and the kept box is that of the sheet. Assumes nothing.
use Rattle.std.proofs.Common.{length, take}
use mathlib.Core.Path.{◌≡◌}
use Rattle.sheet.specs.Corners.{corner_lists}
use Rattle.labels.specs.Kept.{box_kept}
use Rattle.frame_passes.specs.Running.{role_at, call_at, left}
use Rattle.frame_passes.proofs.Running.{Going}
use Rattle.frame_passes.proofs.run_frame.Given as goal

abbrev pub invariant-loop-k : goal.invariant-loop-k
invariant-loop-k l = record {
  around_is : l.around ≡ box_kept l.sheet;
  going :
      Going (corner_lists (take l.corners l.xs) (take l.corners l.ys) (take l.corners l.pitches))
      (call_at l.head.settings (take l.corners l.shades) (length l.initial.queue) (length l.initial.attached) l.passes) (role_at l.passes) l.head.passes l.k
      (left l.initial.sheet l.initial.words) (left l.sheet l.words);
}
