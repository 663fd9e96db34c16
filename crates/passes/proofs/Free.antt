-- A corner that no cell holds is attached only while there are fewer labels than corners, so that a list of new cells with one place a corner
-- never overflows. Assumes nothing.
use mathlib.Core.Path.{◌≡◌}
use mathlib.Core.Bool.{false}
use mathlib.Core.List.{List}
use Prim.Native.Nat.{ℕ, ◌<◌, ◌≤◌}
use native.Mathlib.Omega.{arith}
use Rattle.sheet.specs.Corners.{Given}
use Rattle.sheet.specs.Words.{attached}
use Rattle.sheet.specs.declared.Cell.{Cell}
use Rattle.sheet.proofs.Corners.{given_attached}
use Rattle.labels.specs.Labelled.{label_count, Attaching}
use Rattle.labels.specs.Used.{used_on, OneCell}
use Rattle.labels.proofs.Labelled.{count_attached}
use Rattle.labels.proofs.Used.{one_attached, count_bounded}

module _ {n : ℕ} {sheet : List ℕ} (given : Given n sheet) (one : OneCell sheet) where
  -- at most as many labels as corners
  pub labels_few : label_count sheet ≤ n
  labels_few = count_bounded sheet n given.known one

  -- and fewer where a corner is left to attach
  pub labels_fewer : {c : Cell} {k : ℕ} → Attaching sheet c k → k < n → used_on sheet k ≡ false → label_count sheet < n
  labels_fewer {c} {k} a there free =
      let after = given_attached given c a.on k there a.corner_fits in
      let few = count_bounded (attached sheet c k) n after.known (one_attached a free one) in
      omega (arith, few, count_attached a)
