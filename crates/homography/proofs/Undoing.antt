-- Undoing: the nine entries stand for every step, since a non-finite value of a step leaves one among them. Assumes nothing.
use mathlib.Core.Path.{◌≡◌, refl, sym, ap, ◌∙◌}
use mathlib.Core.Bool.{true}
use mathlib.Core.List.{List, ◌++◌}
use Prim.Native.Nat.{ℕ, zero, suc, ◌+◌, ◌*◌, ◌/◌, ◌%◌, ◌<◌}
use native.Mathlib.Omega.{arith}
use lib.ListN.{get_or}
use lib.Ieee.{Float, nan}
use Rattle.binary32.specs.Ranges.{is_finite, all_finite}
use Rattle.elimination.proofs.Tables.{get_d_table}
use Rattle.elimination.proofs.Finite.{one_finite, none_finite, joined, gathered_true}
use Rattle.homography.specs.declared.Normalization.{Normalization}
use Rattle.homography.specs.Normalize.{row_sum, row_steps, forward}
use Rattle.homography.specs.Undo.{backward, backward_steps, crossed, multiplied, multiplied_steps, answers_and_one, half_undone, undone, undo_steps}
use Rattle.homography.proofs.Normalizing.{Factors, row_factors, row_steps_lem}

-- nine finite entries
abbrev pub FiniteNine : List Float → Type 0
FiniteNine h = (n : ℕ) → n < 9 → is_finite (get_or h n nan) ≡ true

-- ---- a product of two matrices

module _ (a b : List Float) where
  product_entry : (n : ℕ) → n < 9 → get_or (multiplied a b) n nan ≡ crossed row_sum a b n
  unfolding multiplied
  product_entry n h = get_d_table 9 (crossed row_sum a b) n nan h

  module _ (f : FiniteNine (multiplied a b)) where
    entry_finite : (n : ℕ) → n < 9 → is_finite (crossed row_sum a b n) ≡ true
    entry_finite n h = sym (ap is_finite (product_entry n h)) ∙ f n h

    product_steps : all_finite (multiplied_steps a b) ≡ true
    unfolding multiplied_steps
    product_steps = gathered_true 9 (crossed row_steps a b) (λ n h. row_steps_lem _ _ _ _ _ _ (entry_finite n h))

    -- the first matrix is finite too: entry n stands in the sum of entry n
    product_first : FiniteNine a
    product_first n h = go (n % 3) refl (row_factors _ _ _ _ _ _ (entry_finite n h))
      where
        i : ℕ
        i = 3 * (n / 3)

        go : (r : ℕ) → n % 3 ≡ r → Factors (get_or a i nan) (get_or a (i + 1) nan) (get_or a (i + 2) nan) (get_or b (n % 3) nan) (get_or b (3 + n % 3) nan) (get_or b (6 + n % 3) nan) → is_finite (get_or a n nan) ≡ true
        go zero e k = let q : n ≡ 3 * (n / 3) = omega arith in ap (λ (x : ℕ). is_finite (get_or a x nan)) q ∙ k.fa
        go (suc zero) e k = let q : n ≡ 3 * (n / 3) + 1 = omega arith in ap (λ (x : ℕ). is_finite (get_or a x nan)) q ∙ k.fb
        go (suc (suc zero)) e k = let q : n ≡ 3 * (n / 3) + 2 = omega arith in ap (λ (x : ℕ). is_finite (get_or a x nan)) q ∙ k.fc
        go (suc (suc (suc r))) e k = absurd (omega arith)

-- ---- both products

module _ (xs : List Float) (s t : Normalization) where
  pub undo_before : FiniteNine (undone xs s t) → all_finite (undo_steps xs s t) ≡ true
  unfolding undone undo_steps
  undo_before f =
      let half = product_first (half_undone xs t) (forward s) f in
      let inverse = product_first (backward t) (answers_and_one xs) half in
      joined (backward_steps t ++ multiplied_steps (backward t) (answers_and_one xs)) (multiplied_steps (half_undone xs t) (forward s))
      (joined (backward_steps t) (multiplied_steps (backward t) (answers_and_one xs)) (one_finite _ _ (unfold backward in inverse 0 (omega arith)) none_finite)
      (product_steps (backward t) (answers_and_one xs) half))
      (product_steps (half_undone xs t) (forward s) f)
