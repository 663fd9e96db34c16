-- A list of calls goes on where it stopped: the calls after some others run on the sheet that these left. Assumes nothing.
use mathlib.Core.Path.{◌≡◌, refl, ap}
use mathlib.Core.List.{List, [], ◌∷◌, ◌++◌}
use Prim.Native.Nat.{ℕ}
use Rattle.sheet.specs.Corners.{CornerLists}
use Rattle.passes.specs.Outcome.{Outcome}
use Rattle.passes.specs.Run.{Call, step, sheet_after, run, sheet_of}
use Rattle.passes.specs.declared.PassStats.{PassStats}

pub run_then : (l : CornerLists) (sheet : List ℕ) (cs ds : List Call) → run l sheet (cs ++ ds) ≡ run l sheet cs ++ run l (sheet_of l sheet cs) ds
unfolding run sheet_of
run_then l sheet [] ds = refl
run_then l sheet (c ∷ cs) ds = ap (λ (os : List (Outcome PassStats)). step l sheet c ∷ os) (run_then l (sheet_after sheet (step l sheet c)) cs ds)
