-- The sheet on which given cells are labelled, by its written places. Assumes nothing.
use mathlib.Core.Path.{◌≡◌, refl, ap, ◌∙◌}
use mathlib.Core.List.{List, [], ◌∷◌}
use Prim.Native.Nat.{ℕ, ◌+◌}
use Rattle.sheet.specs.declared.Cell.{Cell}
use Rattle.written_places.specs.Written.{Written, Rise, no_more, sheet_with, attached_in}
use Rattle.written_places.proofs.Written.{rise_put, attached_so}
use Rattle.worked_examples.specs.Table.{with_labels, labelled}

-- the written places with the corners k, k + 1 and so on attached to some cells
unfoldable pub with_labels_in : List Written → ℕ → List Cell → List Written
with_labels_in w k [] = w
with_labels_in w k (c ∷ cs) = with_labels_in (attached_in w c k) (k + 1) cs

with_labels_so : (cells : List Cell) (w : List Written) (k : ℕ) → with_labels (sheet_with w) k cells ≡ sheet_with (with_labels_in w k cells)
unfolding with_labels with_labels_in
with_labels_so [] w k = refl
with_labels_so (c ∷ cs) w k = ap (λ (sheet : List ℕ). with_labels sheet (k + 1) cs) (attached_so w c k) ∙ with_labels_so cs (attached_in w c k) (k + 1)

with_labels_rise : (cells : List Cell) (w : List Written) (k : ℕ) → Rise 0 w → Rise 0 (with_labels_in w k cells)
unfolding with_labels_in
with_labels_rise [] w k h = h
with_labels_rise (c ∷ cs) w k h = with_labels_rise cs (attached_in w c k) (k + 1) (rise_put w _ _ h)

pub labelled_so : (cells : List Cell) → labelled cells ≡ sheet_with (with_labels_in [] 0 cells)
unfolding sheet_with
labelled_so cells = with_labels_so cells [] 0

pub labelled_rises : (cells : List Cell) → Rise 0 (with_labels_in [] 0 cells)
labelled_rises cells = with_labels_rise cells [] 0 no_more
