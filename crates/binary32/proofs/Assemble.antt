-- From the nearest whole root to the root's pattern: what `root_bits` gives. Assumes nothing.
use Prim.Native.Nat.{ℕ, suc, ◌+◌, ◌-◌, ◌*◌, ◌/◌, ◌%◌, ◌^◌, ◌≤◌, ◌<◌}
use mathlib.Core.Path.{◌≡◌, sym, ap, ap₂, subst, ◌∙◌}
use mathlib.Core.Logic.{◌⊎◌, inl, inr}
use native.Mathlib.Nat.{mul_assoc, mul-mul-mul_comm, add-mul, eq-or-lt_of_le, lt_of_lt_of_le, le_of_eq, mul-pos, mul-lt-mul_of_pos_right, mul-le-mul_left, mul-le-mul_right, le_trans, pow-suc}
use native.Mathlib.Omega.{arith}
use lib.Pow.{pow-add, pow_pos}
use Rattle.binary32.specs.Sqrt.{square, units_of, RootOf}
use Rattle.binary32.specs.Steps.{Near, Normalized}
use Rattle.binary32.proofs.Squares.{square_lt, even_square}
use Rattle.binary32.proofs.Magnitude.{at, at_next}

-- ---- squares, p times as large

scaled : (a n p x : ℕ) → 0 < p → n * square p ≡ x → square a < 4 * n → square (a * p) < 4 * x
scaled a n p x P e h =
    subst (λ (y : ℕ). y < 4 * x) (sym (mul-mul-mul_comm a p a p))
    (lt_of_lt_of_le (mul-lt-mul_of_pos_right h (mul-pos P P)) (le_of_eq (mul_assoc 4 n (square p) ∙ ap (λ (y : ℕ). 4 * y) e)))

scaled_above : (a n p x : ℕ) → 0 < p → n * square p ≡ x → 4 * n < square a → 4 * x < square (a * p)
scaled_above a n p x P e h =
    subst (λ (y : ℕ). 4 * x < y) (sym (mul-mul-mul_comm a p a p))
    (subst (λ (y : ℕ). y < square a * square p) (mul_assoc 4 n (square p) ∙ ap (λ (y : ℕ). 4 * y) e) (mul-lt-mul_of_pos_right h (mul-pos P P)))

-- ---- the neighbours of the pattern g * 2 ^ 23 + q

module _ (g q : ℕ) (l : 0x80_0000 ≤ q) (h : q < 0x100_0000) where
  -- the one above, also where it is at the next field
  next : units_of (g * 0x80_0000 + q + 1) ≡ (q + 1) * 2 ^ g
  next = go (eq-or-lt_of_le h)
    where
      at_top : suc q ≡ 0x100_0000 → g * 0x80_0000 + q + 1 ≡ g * 0x80_0000 + 0x100_0000
      at_top e = omega arith

      is_top : suc q ≡ 0x100_0000 → 0x100_0000 ≡ q + 1
      is_top e = omega arith

      inside : g * 0x80_0000 + q + 1 ≡ g * 0x80_0000 + (q + 1)
      inside = omega arith

      go : (suc q ≡ 0x100_0000) ⊎ (suc q < 0x100_0000) → units_of (g * 0x80_0000 + q + 1) ≡ (q + 1) * 2 ^ g
      go (inl e) = ap units_of (at_top e) ∙ at_next g ∙ ap (λ (x : ℕ). x * 2 ^ g) (is_top e)
      go (inr k) = ap units_of inside ∙ at g (q + 1) (omega arith) (omega arith)

  -- the one below, at the same field
  before : 0x80_0000 < q → units_of (g * 0x80_0000 + q - 1) ≡ (q - 1) * 2 ^ g
  before k = ap units_of same ∙ at g (q - 1) (omega arith) (omega arith)
    where
      same : g * 0x80_0000 + q - 1 ≡ g * 0x80_0000 + (q - 1)
      same = omega arith

-- the one below the first significand of a field
before_first : (g : ℕ) → units_of (suc g * 0x80_0000 + 0x80_0000 - 1) ≡ 0xff_ffff * 2 ^ g
before_first g = ap units_of (lower g) ∙ at g 0xff_ffff (omega arith) (omega arith)
  where
    lower : (g : ℕ) → suc g * 0x80_0000 + 0x80_0000 - 1 ≡ g * 0x80_0000 + 0xff_ffff
    lower g = omega arith

-- ---- the root's pattern

module _ (b n : ℕ) (low : 2 ^ 46 ≤ n) where
  first : (g : ℕ) → n * square (2 ^ suc g) ≡ units_of b * 2 ^ 149
      → square (units_of (suc g * 0x80_0000 + 0x80_0000 - 1) + units_of (suc g * 0x80_0000 + 0x80_0000)) < 4 * (units_of b * 2 ^ 149)
  first g e =
      lt_of_lt_of_le
      (square_lt (units_of (suc g * 0x80_0000 + 0x80_0000 - 1) + units_of (suc g * 0x80_0000 + 0x80_0000)) (0x80_0000 * 2 ^ suc g + 0x80_0000 * 2 ^ suc g)
      (rw (before_first g, at (suc g) 0x80_0000 (omega arith) (omega arith), pow-suc 2 g) (less (2 ^ g) (pow_pos g))))
      (le_trans (le_of_eq (even_square (0x80_0000 * 2 ^ suc g)))
      (mul-le-mul_left 4 (le_trans (le_of_eq (mul-mul-mul_comm 0x80_0000 (2 ^ suc g) 0x80_0000 (2 ^ suc g))) (le_trans (mul-le-mul_right (square (2 ^ suc g)) low) (le_of_eq e)))))
    where
      less : (p : ℕ) → 0 < p → 0xff_ffff * p + 0x80_0000 * (p * 2) < 0x80_0000 * (p * 2) + 0x80_0000 * (p * 2)
      less p h = omega arith

  pub assembled : (g q : ℕ) → suc g * 0x80_0000 + q < 0x7f80_0000 → n * square (2 ^ suc g) ≡ units_of b * 2 ^ 149 → Near n q → RootOf b (suc g * 0x80_0000 + q)
  assembled g q f e k = record {
    finite = f;
    above = above (eq-or-lt_of_le k.low);
    under =
        subst (λ (x : ℕ). 4 * (units_of b * 2 ^ 149) < square x)
        (add-mul q (q + 1) (2 ^ suc g) ∙ sym (ap₂ ◌+◌ (at (suc g) q k.low k.high) (next (suc g) q k.low k.high)))
        (scaled_above (q + (q + 1)) n (2 ^ suc g) (units_of b * 2 ^ 149) (pow_pos (suc g)) e k.under);
  }
    where
      above : (0x80_0000 ≡ q) ⊎ (0x80_0000 < q) → square (units_of (suc g * 0x80_0000 + q - 1) + units_of (suc g * 0x80_0000 + q)) < 4 * (units_of b * 2 ^ 149)
      above (inl f) = subst (λ (x : ℕ). square (units_of (suc g * 0x80_0000 + x - 1) + units_of (suc g * 0x80_0000 + x)) < 4 * (units_of b * 2 ^ 149)) f (first g e)
      above (inr f) =
          subst (λ (x : ℕ). square x < 4 * (units_of b * 2 ^ 149))
          (add-mul (q - 1) q (2 ^ suc g) ∙ sym (ap₂ ◌+◌ (before (suc g) q k.low k.high f) (at (suc g) q k.low k.high)))
          (scaled (q - 1 + q) n (2 ^ suc g) (units_of b * 2 ^ 149) (pow_pos (suc g)) e k.above)

-- the exponent is even once 23 or 24 of it went into n
pub halved : (m e g d : ℕ) → d + (g + g) ≡ e → m * 2 ^ d * square (2 ^ g) ≡ m * 2 ^ e
halved m e g d h = mul_assoc m (2 ^ d) (square (2 ^ g)) ∙ ap (λ (x : ℕ). m * x) (ap (λ (x : ℕ). 2 ^ d * x) (sym (pow-add 2 g g)) ∙ sym (pow-add 2 d (g + g)) ∙ ap (λ (x : ℕ). 2 ^ x) h)

-- `root_bits` from its parts: d is 24 where e is even, and 23 where it is odd
pub root : (b m e d g q : ℕ) → Normalized b m e → d + (g + g) ≡ e → 23 ≤ d → d ≤ 24 → 2 ^ 46 ≤ m * 2 ^ d → Near (m * 2 ^ d) q → RootOf b (g * 0x80_0000 + q)
root b m e d g q u h c c' l k =
    subst (λ (x : ℕ). RootOf b (x * 0x80_0000 + q)) (one_more e d g h c' u.least)
    (assembled b (m * 2 ^ d) l (g - 1) q (small e d g q h c u.most k.high) (ap (λ (x : ℕ). m * 2 ^ d * square (2 ^ x)) (one_more e d g h c' u.least) ∙ halved m e g d h ∙ u.value) k)
  where
    one_more : (e d g : ℕ) → d + (g + g) ≡ e → d ≤ 24 → 126 ≤ e → suc (g - 1) ≡ g
    one_more e d g h c l = omega arith

    small : (e d g q : ℕ) → d + (g + g) ≡ e → 23 ≤ d → e ≤ 402 → q < 2 ^ 24 → suc (g - 1) * 0x80_0000 + q < 0x7f80_0000
    small e d g q h c l k = omega arith

-- which g and d those are, by the exponent: apart from the rest, since `omega` stops at a number as long as 2 ^ 149
pub even : (e : ℕ) → 126 ≤ e → e % 2 ≡ 0 → 24 + ((e - 23) / 2 + (e - 23) / 2) ≡ e
even e h p = omega arith

pub odd : (e : ℕ) → 126 ≤ e → (e % 2 ≡ 0 → ⊥) → 23 + ((e - 23) / 2 + (e - 23) / 2) ≡ e
odd e h p = omega arith
