-- What the definitions of the solution say: which row the pivot is, and that answers that count come from finite steps alone.
-- Assumes nothing.
use mathlib.Core.Path.{◌≡◌, refl, sym, ◌∙◌}
use mathlib.Core.Bool.{Bool, true, false, cond, ◌&&◌, true≢false}
use Prim.Native.Nat.{ℕ, zero, suc, ◌+◌, ◌-◌, ◌<◌, ◌≤◌}
use native.Mathlib.Decide.{ℕ_discrete}
use native.Mathlib.Omega.{arith}
use mathlib.Core.List.{List}
use lib.Ieee.{Float, nan, inf, fin, neg, lt, is_nan}
use Rattle.float_order.proofs.Order.{lt_asym, lt_irrefl, not_lt_trans}
use Rattle.binary32.specs.Ranges.{is_finite, all_finite}
use Rattle.binary32.specs.Numbers.{nought}
use Rattle.elimination.specs.Rounded.{magnitude}
use Rattle.elimination.specs.Tables.{concatenated}
use Rattle.elimination.specs.Solve.{Matrix, entry, values, largest, pivoted, eliminated, no_zero_pivot, column_steps, elimination_steps, answer_steps, solve_steps, sound_of}
use Rattle.elimination.proofs.Tables.{both}
use Rattle.elimination.proofs.Finite.{apart, gathered_at, gathered_true}
use Rattle.elimination.proofs.Sound.{FiniteMatrix, matrix_at, values_finite, columns_after}

-- ---- the pivot

-- b is the first of k to k + n at which g is not exceeded
pub record FirstLargest (g : ℕ → Float) (k n b : ℕ) : Type 0 where
  pub from : k ≤ b
  pub upto : b ≤ k + n
  pub unexceeded : (i : ℕ) → k ≤ i → i ≤ k + n → lt (g b) (g i) ≡ false
  pub first : (i : ℕ) → k ≤ i → i < b → lt (g i) (g b) ≡ true

module _ (g : ℕ → Float) (k : ℕ) where
  one_row : FirstLargest g k 0 k
  one_row = record { from = omega arith; upto = omega arith; unexceeded = λ i a b. let e : i ≡ k = omega arith in rw e (lt_irrefl (g k)); first = λ i a b. absurd (omega arith) }

  module _ (n b : ℕ) (no_nan : (i : ℕ) → k ≤ i → i ≤ k + suc n → is_nan (g i) ≡ false) (f : FirstLargest g k n b) where
    replaced : lt (g b) (g (k + suc n)) ≡ true → FirstLargest g k (suc n) (k + suc n)
    replaced e = record { from = omega arith; upto = omega arith; unexceeded = λ i p q. at i p q (ℕ_discrete i (k + suc n)); first = λ i p q. before i p q (lt (g i) (g (k + suc n))) refl }
      where
        at : (i : ℕ) → k ≤ i → i ≤ k + suc n → Dec (i ≡ k + suc n) → lt (g (k + suc n)) (g i) ≡ false
        at i p q (yes s) = rw s (lt_irrefl (g (k + suc n)))
        at i p q (no s) = not_lt_trans (g (k + suc n)) (g b) (g i) (no_nan b f.from (omega (arith, f.upto))) (lt_asym (g b) (g (k + suc n)) e) (f.unexceeded i p (omega arith))

        before : (i : ℕ) → k ≤ i → i < k + suc n → (t : Bool) → lt (g i) (g (k + suc n)) ≡ t → lt (g i) (g (k + suc n)) ≡ true
        before i p q true s = s
        before i p q false s = absurd (true≢false (sym e ∙ not_lt_trans (g b) (g i) (g (k + suc n)) (no_nan i p (omega arith)) (f.unexceeded i p (omega arith)) s))

    stays : lt (g b) (g (k + suc n)) ≡ false → FirstLargest g k (suc n) b
    stays e = record { from = f.from; upto = omega (arith, f.upto); unexceeded = λ i p q. at i p q (ℕ_discrete i (k + suc n)); first = f.first }
      where
        at : (i : ℕ) → k ≤ i → i ≤ k + suc n → Dec (i ≡ k + suc n) → lt (g b) (g i) ≡ false
        at i p q (yes s) = rw s e
        at i p q (no s) = f.unexceeded i p (omega arith)

    one_more : FirstLargest g k (suc n) (cond (lt (g b) (g (k + suc n))) (k + suc n) b)
    one_more = go (lt (g b) (g (k + suc n))) refl
      where
        go : (t : Bool) → lt (g b) (g (k + suc n)) ≡ t → FirstLargest g k (suc n) (cond t (k + suc n) b)
        go true e = replaced e
        go false e = stays e

chosen : (m : Matrix) (k n : ℕ) → ((i : ℕ) → k ≤ i → i ≤ k + n → is_nan (magnitude (entry m i k)) ≡ false) → FirstLargest (λ i. magnitude (entry m i k)) k n (largest m k n)
unfolding largest
chosen m k zero h = one_row (λ i. magnitude (entry m i k)) k
chosen m k (suc n) h = one_more (λ i. magnitude (entry m i k)) k n (largest m k n) h (chosen m k n (λ i p q. h i p (omega arith)))

plain : (x : Float) → is_finite x ≡ true → is_nan (magnitude x) ≡ false
unfolding is_finite is_nan lt neg
plain nan e = absurd (true≢false (sym e))
plain (inf s) e = absurd (true≢false (sym e))
plain (fin s m d) e = go (lt (fin s m d) nought)
  where
    go : (t : Bool) → is_nan (cond t (neg (fin s m d)) (fin s m d)) ≡ false
    go true = refl
    go false = refl

-- In a matrix of finite values the pivot of column k is a row at or below the diagonal of largest magnitude, and none before it is as large.
pub pivot_first : (m : Matrix) (k : ℕ) → FiniteMatrix m → k < 8 → FirstLargest (λ i. magnitude (entry m i k)) k (7 - k) (largest m k (7 - k))
pivot_first m k f h = chosen m k (7 - k) (λ i p q. plain (entry m i k) (f i k (omega arith) (omega arith)))

-- ---- answers that count

module _ (m : Matrix) (e : sound_of m ≡ true) where
  -- every given value was finite, and every step's
  pub sound_values : all_finite (values m) ≡ true
  unfolding sound_of
  sound_values = (both (all_finite (values m)) (all_finite (solve_steps m)) (both (no_zero_pivot m) (all_finite (values m) && all_finite (solve_steps m)) e).1).0

  pub sound_steps : all_finite (solve_steps m) ≡ true
  unfolding sound_of
  sound_steps = (both (all_finite (values m)) (all_finite (solve_steps m)) (both (no_zero_pivot m) (all_finite (values m) && all_finite (solve_steps m)) e).1).1

  -- so at each column the pivot is the first of those of largest magnitude
  pub sound_first : (k : ℕ) → k < 8 → FirstLargest (λ i. magnitude (entry (eliminated k m) i k)) k (7 - k) (largest (eliminated k m) k (7 - k))
  unfolding solve_steps elimination_steps
  sound_first k h =
      let f : ℕ → List Float = λ k. column_steps (pivoted (eliminated k m) k) k in
      let s = (apart (concatenated 8 f) (answer_steps 8 (eliminated 8 m)) sound_steps).0 in
      pivot_first (eliminated k m) k (columns_after k m (omega arith) (matrix_at m (sym (values_finite m) ∙ sound_values)) (gathered_true k f (λ i l. gathered_at 8 f s i (omega arith)))) h
