-- The second set with one label more at its end, as a frame's lines are read. Assumes nothing.
use mathlib.Core.Path.{◌≡◌, ap, ◌∙◌}
use mathlib.Core.List.{List, [], ◌∷◌, ◌++◌}
use Prim.Native.Nat.{ℕ, ◌+◌, ◌<◌}
use native.Mathlib.Numerals.{add-one}
use lib.ListN.{length, set, take}
use lib.Seq.{take-suc-set}
use Rattle.std.proofs.lemmas.List.{map-append}
use Rattle.std.proofs.lemmas.List.Elements.{All-push, All-same}
use Rattle.join_sheet.specs.Held.{held_at, held_labels, LabelHeld, HeldSecond}
use Rattle.join_sheet.specs.declared.SecondLabel.{SecondLabel}

-- an array with the label l behind its first n
module _ (second : List SecondLabel) (n : ℕ) (l : SecondLabel) (room : n < length second) where
  pub labels_more : take (n + 1) (set second n l) ≡ take n second ++ (l ∷ [])
  labels_more = rw add-one (take-suc-set second n l room)

  pub held_more : held_labels (take (n + 1) (set second n l)) ≡ held_labels (take n second) ++ (held_at l ∷ [])
  held_more = ap held_labels labels_more ∙ map-append held_at (take n second) (l ∷ [])

  pub second_more : HeldSecond (take n second) → LabelHeld l → HeldSecond (take (n + 1) (set second n l))
  second_more s h = All-same LabelHeld _ _ labels_more (All-push LabelHeld (take n second) l s h)
