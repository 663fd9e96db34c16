-- What a pass answers says what the outcome of its step says: by the equation for its answer and its buffers. Assumes nothing.
use mathlib.Core.Path.{◌≡◌, ap}
use mathlib.Core.List.{List}
use Prim.Native.Nat.{ℕ}
use Rattle.passes.specs.Outcome.{Outcome, refused, done}
use Rattle.passes.specs.Step.{GrowOut, grow_leaves, FillOut, fill_leaves, LocalOut, local_leaves}
use Rattle.passes.specs.Said.{grow_values, fill_values, local_values, grow_said, fill_said, local_said, outcome_due}
use Rattle.passes.specs.declared.GrowStats.{GrowStats}
use Rattle.passes.specs.declared.FillStats.{FillStats}
use Rattle.passes.specs.declared.LocalStats.{LocalStats}

pub grow_said_lem : (o : Outcome GrowStats) (sheet queue attached : List ℕ) (out : GrowOut) → out ≡ grow_leaves o sheet queue attached
    → grow_said out.answer ≡ outcome_due grow_values o
unfolding grow_said outcome_due
grow_said_lem (refused r) sheet queue attached out e = ap (λ (w : GrowOut). grow_said w.answer) e
grow_said_lem (done a) sheet queue attached out e = ap (λ (w : GrowOut). grow_said w.answer) e

pub fill_said_lem : (o : Outcome FillStats) (sheet attached : List ℕ) (out : FillOut) → out ≡ fill_leaves o sheet attached → fill_said out.answer ≡ outcome_due fill_values o
unfolding fill_said outcome_due
fill_said_lem (refused r) sheet attached out e = ap (λ (w : FillOut). fill_said w.answer) e
fill_said_lem (done a) sheet attached out e = ap (λ (w : FillOut). fill_said w.answer) e

pub local_said_lem : (o : Outcome LocalStats) (sheet attached : List ℕ) (out : LocalOut) → out ≡ local_leaves o sheet attached
    → local_said out.answer ≡ outcome_due local_values o
unfolding local_said outcome_due
local_said_lem (refused r) sheet attached out e = ap (λ (w : LocalOut). local_said w.answer) e
local_said_lem (done a) sheet attached out e = ap (λ (w : LocalOut). local_said w.answer) e
