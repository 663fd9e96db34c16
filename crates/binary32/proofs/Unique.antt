-- `RootOf` says which: a pattern has one root at most, and of two patterns the one with the larger number has no smaller root. Assumes nothing.
use Prim.Native.Nat.{ℕ, suc, ◌+◌, ◌-◌, ◌*◌, ◌/◌, ◌%◌, ◌^◌, ◌≤◌, ◌<◌}
use mathlib.Core.Path.{◌≡◌, sym, subst}
use mathlib.Core.Logic.{inl, inr}
use native.Mathlib.Nat.{le_refl, le_trans, le_of_eq, lt_irrefl, lt_trans, lt_of_le_of_lt, lt_of_lt_of_le, le_antisymm, le_of_suc-le-suc, lt_of_not-le, add-le-add, mul-le-mul, mul-le-mul_left, mul-le-mul_right, pow-succ', eq-or-lt_of_le}
use native.Mathlib.Decide.{dec_le}
use native.Mathlib.Omega.{arith}
use lib.Pow.{pow_mono}
use Rattle.binary32.specs.Sqrt.{units_of, RootOf}
use Rattle.binary32.proofs.Magnitude.{small, large}

-- ---- a larger pattern has no smaller magnitude

step : (x y p q : ℕ) → x ≤ 0x100_0000 → 0x80_0000 ≤ y → 2 * p ≤ q → x * p ≤ y * q
step x y p q h k l = le_trans (mul-le-mul_right p h) (le_trans (half p q l) (mul-le-mul_right q k))
  where
    half : (p q : ℕ) → 2 * p ≤ q → 0x100_0000 * p ≤ 0x80_0000 * q
    half p q l = omega arith

above : (b c : ℕ) → 0x80_0000 ≤ b → b ≤ c → units_of b ≤ units_of c
above b c l h =
    rw (large b l, large c (omega arith))
    (elim (eq-or-lt_of_le (fields b c h)) [
      | inl e ↦ subst (λ (x : ℕ). (0x80_0000 + b % 0x80_0000) * 2 ^ (b / 0x80_0000 - 1) ≤ (0x80_0000 + c % 0x80_0000) * 2 ^ (x - 1)) e (mul-le-mul_right (2 ^ (b / 0x80_0000 - 1)) (digits b c h e))
      | inr k ↦ step (0x80_0000 + b % 0x80_0000) (0x80_0000 + c % 0x80_0000) (2 ^ (b / 0x80_0000 - 1)) (2 ^ (c / 0x80_0000 - 1)) (most b) (least c)
          (le_trans (le_of_eq (sym (pow-succ' 2 (b / 0x80_0000 - 1)))) (pow_mono (next b c l k)))
    ])
  where
    fields : (b c : ℕ) → b ≤ c → b / 0x80_0000 ≤ c / 0x80_0000
    fields b c h = omega arith

    digits : (b c : ℕ) → b ≤ c → b / 0x80_0000 ≡ c / 0x80_0000 → 0x80_0000 + b % 0x80_0000 ≤ 0x80_0000 + c % 0x80_0000
    digits b c h e = omega arith

    most : (b : ℕ) → 0x80_0000 + b % 0x80_0000 ≤ 0x100_0000
    most b = omega arith

    least : (c : ℕ) → 0x80_0000 ≤ 0x80_0000 + c % 0x80_0000
    least c = omega arith

    next : (b c : ℕ) → 0x80_0000 ≤ b → b / 0x80_0000 < c / 0x80_0000 → suc (b / 0x80_0000 - 1) ≤ c / 0x80_0000 - 1
    next b c l k = omega arith

pub mono : (b c : ℕ) → b ≤ c → units_of b ≤ units_of c
mono b c h = go (dec_le 0x80_0000 b) (dec_le 0x80_0000 c)
  where
    go : Dec (0x80_0000 ≤ b) → Dec (0x80_0000 ≤ c) → units_of b ≤ units_of c
    go (yes l) d = above b c l h
    go (no f) (yes l) = le_trans (rw (small b (omega arith)) (omega arith)) (le_trans (le_of_eq first) (above 0x80_0000 c (omega arith) l))
      where
        first : 0x80_0000 ≡ units_of 0x80_0000
        first = sym (large 0x80_0000 (omega arith))
    go (no f) (no g) = rw (small b (omega arith), small c (omega arith)) h

-- ---- of two patterns, the upper midpoint of the lower is at most the lower midpoint of the upper

-- so of two numbers, the larger has no smaller root
pub in_order : (b c r s : ℕ) → units_of b ≤ units_of c → RootOf b r → RootOf c s → r ≤ s
in_order b c r s h p q = le_of_suc-le-suc (lt_of_not-le apart)
  where
    between : s < r → units_of s + units_of (s + 1) ≤ units_of (r - 1) + units_of r
    between k = add-le-add (mono s (r - 1) (omega arith)) (mono (s + 1) r (omega arith))

    scaled : 4 * (units_of b * 2 ^ 149) ≤ 4 * (units_of c * 2 ^ 149)
    scaled = mul-le-mul_left 4 (mul-le-mul_right (2 ^ 149) h)

    apart : s < r → ⊥
    apart k =
        lt_irrefl (4 * (units_of c * 2 ^ 149))
        (lt_trans q.under (lt_of_le_of_lt (mul-le-mul (between k) (between k)) (lt_of_lt_of_le p.above scaled)))

pub unique : (b r s : ℕ) → RootOf b r → RootOf b s → r ≡ s
unique b r s p q = le_antisymm (in_order b b r s (le_refl (units_of b)) p q) (in_order b b s r (le_refl (units_of b)) q p)
