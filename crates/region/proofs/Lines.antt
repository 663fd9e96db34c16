-- A cell's number, less or more than a bound by some lines, as lines of the sheet from 0 to 127. Assumes nothing.
use mathlib.Core.Path.{◌≡◌, refl, sym, ap, ◌∙◌}
use mathlib.Core.Bool.{Bool, true, false, true≢false}
use Prim.Native.Nat.{ℕ, zero, suc, ◌+◌, ◌-◌, ◌<◌, ◌≤◌}
use native.Mathlib.Omega.{arith}
use borrow.Author.Tests.{ltb-true, ltb-false, leb-true}
use lib.Dec.{T, ltb}
use lib.IntN.{ℤ, pos, negsuc, sub_ℕ, ◌+ℤ◌, ◌-ℤ◌, +ℤ_idr}
use lib.Signed.{le_z}
use Rattle.sheet.specs.Cells.{in_range, line_of}
use Rattle.sheet.proofs.Laws.{sub_lo, sub_hi, lined}

-- ---- differences of two naturals

-- equal, if so are the sums across
same_sub : (a b c d : ℕ) → a + d ≡ c + b → sub_ℕ a b ≡ sub_ℕ c d
same_sub a b c d h = go (ltb a b) refl
  where
    go : (t : Bool) → ltb a b ≡ t → sub_ℕ a b ≡ sub_ℕ c d
    go true e = let k : a < b = ltb-true a b e in sub_lo a b k ∙ ap negsuc (omega arith) ∙ sym (sub_lo c d (omega arith))
    go false e = let k : b ≤ a = ltb-false a b e in sub_hi a b k ∙ ap pos (omega arith) ∙ sym (sub_hi c d (omega arith))

-- in order, as the sums across
sub_order : (a b c d : ℕ) → le_z (sub_ℕ a b) (sub_ℕ c d) ≡ true → a + d ≤ c + b
sub_order a b c d h = go (ltb a b) refl (ltb c d) refl
  where
    go : (t : Bool) → ltb a b ≡ t → (u : Bool) → ltb c d ≡ u → a + d ≤ c + b
    go true e true f =
        let k : a < b = ltb-true a b e in
        let l : c < d = ltb-true c d f in
        let g : d - suc c ≤ b - suc a = leb-true _ _ (rw (sub_lo a b k, sub_lo c d l) at h) in
        omega arith
    go true e false f = omega (arith, ltb-true a b e, ltb-false c d f)
    go false e true f = absurd (true≢false (sym (rw (sub_hi a b (ltb-false a b e), sub_lo c d (ltb-true c d f)) at h)))
    go false e false f =
        let k : b ≤ a = ltb-false a b e in
        let l : d ≤ c = ltb-false c d f in
        let g : a - b ≤ c - d = leb-true _ _ (rw (sub_hi a b k, sub_hi c d l) at h) in
        omega arith

-- n less, n more
sub_less : (m k n : ℕ) → sub_ℕ m k -ℤ pos n ≡ sub_ℕ m (k + n)
sub_less m k zero = +ℤ_idr (sub_ℕ m k) ∙ same_sub m k m (k + 0) (omega arith)
sub_less m k (suc n) = go (ltb m k) refl
  where
    go : (t : Bool) → ltb m k ≡ t → sub_ℕ m k -ℤ pos (suc n) ≡ sub_ℕ m (k + suc n)
    go true e =
        let l : m < k = ltb-true m k e in
        ap (λ (z : ℤ). z -ℤ pos (suc n)) (sub_lo m k l) ∙ ap negsuc (omega arith) ∙ sym (sub_lo m (k + suc n) (omega arith))
    go false e =
        let l : k ≤ m = ltb-false m k e in
        ap (λ (z : ℤ). z -ℤ pos (suc n)) (sub_hi m k l) ∙ same_sub (m - k) (suc n) m (k + suc n) (omega arith)

sub_more : (m k n : ℕ) → sub_ℕ m k +ℤ pos n ≡ sub_ℕ (m + n) k
sub_more m k n = go (ltb m k) refl
  where
    go : (t : Bool) → ltb m k ≡ t → sub_ℕ m k +ℤ pos n ≡ sub_ℕ (m + n) k
    go true e =
        let l : m < k = ltb-true m k e in
        ap (λ (z : ℤ). z +ℤ pos n) (sub_lo m k l) ∙ same_sub n (suc (k - suc m)) (m + n) k (omega arith)
    go false e =
        let l : k ≤ m = ltb-false m k e in
        ap (λ (z : ℤ). z +ℤ pos n) (sub_hi m k l) ∙ ap pos (omega arith) ∙ sym (sub_hi (m + n) k (omega arith))

-- ---- a line and a bound

module _ (z : ℤ) (on : T (in_range z)) (n q : ℕ) where
  pub line_from : le_z (z -ℤ pos n) (sub_ℕ q 64) ≡ true → line_of z ≤ q + n
  line_from e =
      let at : z -ℤ pos n ≡ sub_ℕ (line_of z) (64 + n) = ap (λ (y : ℤ). y -ℤ pos n) (sym (lined z on).back) ∙ sub_less (line_of z) 64 n in
      let h = sub_order (line_of z) (64 + n) q 64 (rw at at e) in
      omega arith

  pub line_to : le_z (sub_ℕ q 64) (z +ℤ pos n) ≡ true → q ≤ line_of z + n
  line_to e =
      let at : z +ℤ pos n ≡ sub_ℕ (line_of z + n) 64 = ap (λ (y : ℤ). y +ℤ pos n) (sym (lined z on).back) ∙ sub_more (line_of z) 64 n in
      let h = sub_order q 64 (line_of z + n) 64 (rw at at e) in
      omega arith
