-- `units_of` is what the logic's account of IEEE 754 reads from a pattern: with the sign's bit off, a pattern below the infinity's is that many times 2 ^ -149,
-- and any other is an infinity or a NaN. Assumes nothing.
use Prim.Native.Nat.{ℕ, zero, suc, ◌+◌, ◌-◌, ◌*◌, ◌/◌, ◌%◌, ◌^◌, ◌≤◌, ◌<◌}
use mathlib.Core.Path.{◌≡◌, refl, sym, ap, subst, ◌∙◌}
use mathlib.Core.Logic.{◌⊎◌, inl, inr}
use mathlib.Core.Bool.{Bool, true, false, cond}
use native.Mathlib.Nat.{mul-pos}
use native.Mathlib.Decide.{dec_le}
use native.Mathlib.Omega.{arith}
use borrow.Author.Tests.{eq-eqb, ne_eqb}
use lib.Dec.{leb, eqb}
use lib.Pow.{pow_pos}
use lib.Ieee.{Float, nan, inf, binary32, of_fields, of_bits}
use lib.Ieee.Exact.{HasValue, odd_sign}
use Rattle.binary32.specs.Sqrt.{units_of}
use Rattle.binary32.proofs.Magnitude.{small, large}

of_bits_is : (b : ℕ) → of_bits binary32 b ≡ of_fields binary32 (leb 0x8000_0000 b) (b % 0x8000_0000 / 0x80_0000) (b % 0x80_0000)
unfolding of_bits
of_bits_is b = refl

-- ---- by the exponent's field

at_zero : (s : Bool) (t : ℕ) → HasValue (of_fields binary32 s 0 t) s (t * 2 ^ 0) (2 ^ 149)
unfolding of_fields
at_zero s t = odd_sign 24 s t 0 149

under_ones : (s : Bool) (t x : ℕ) → suc x < 255 → HasValue (of_fields binary32 s (suc x) t) s ((0x80_0000 + t) * 2 ^ x) (2 ^ 149)
unfolding of_fields
under_ones s t x h = rw (ne_eqb (suc x) 255 (omega arith)) (odd_sign 24 s (0x80_0000 + t) x 149)

at_ones : (s : Bool) (t x : ℕ) → x ≡ 255 → (of_fields binary32 s x t ≡ inf s) ⊎ (of_fields binary32 s x t ≡ nan)
unfolding of_fields
at_ones s t zero e = absurd (none e)
  where
    none : zero ≡ 255 → ⊥
    none e = omega arith
at_ones s t (suc x) e = rw (eq-eqb (suc x) 255 e) (go (eqb t 0))
  where
    go : (z : Bool) → (cond z (inf s) nan ≡ inf s) ⊎ (cond z (inf s) nan ≡ nan)
    go true = inl refl
    go false = inr refl

-- ---- by the pattern

fields : (s : Bool) (a x t : ℕ) → x ≡ a / 0x80_0000 → t ≡ a % 0x80_0000 → a < 0x7f80_0000 → HasValue (of_fields binary32 s x t) s (units_of a) (2 ^ 149)
fields s a zero t ex et h = rw (small a (omega arith)) (subst (λ (n : ℕ). HasValue (of_fields binary32 s 0 t) s n (2 ^ 149)) (plain ex et) (at_zero s t))
  where
    plain : 0 ≡ a / 0x80_0000 → t ≡ a % 0x80_0000 → t * 2 ^ 0 ≡ a
    plain e f = omega arith
fields s a (suc x) t ex et h =
    subst (λ (n : ℕ). HasValue (of_fields binary32 s (suc x) t) s n (2 ^ 149))
    (sym (large a (omega arith) ∙ ap (λ (d : ℕ). (0x80_0000 + d) * 2 ^ (a / 0x80_0000 - 1)) (sym et) ∙ ap (λ (k : ℕ). (0x80_0000 + t) * 2 ^ k) (field ex)))
    (under_ones s t x (omega arith))
  where
    field : suc x ≡ a / 0x80_0000 → a / 0x80_0000 - 1 ≡ x
    field e = omega arith

pub value : (b : ℕ) → b % 0x8000_0000 < 0x7f80_0000 → HasValue (of_bits binary32 b) (leb 0x8000_0000 b) (units_of (b % 0x8000_0000)) (2 ^ 149)
value b h =
    subst (λ (v : Float). HasValue v (leb 0x8000_0000 b) (units_of (b % 0x8000_0000)) (2 ^ 149)) (sym (of_bits_is b))
    (fields (leb 0x8000_0000 b) (b % 0x8000_0000) (b % 0x8000_0000 / 0x80_0000) (b % 0x80_0000) refl (low b) h)
  where
    low : (b : ℕ) → b % 0x80_0000 ≡ b % 0x8000_0000 % 0x80_0000
    low b = omega arith

pub beyond : (b : ℕ) → 0x7f80_0000 ≤ b % 0x8000_0000 → (of_bits binary32 b ≡ inf (leb 0x8000_0000 b)) ⊎ (of_bits binary32 b ≡ nan)
beyond b h = rw of_bits_is (at_ones (leb 0x8000_0000 b) (b % 0x80_0000) (b % 0x8000_0000 / 0x80_0000) (omega arith))

pub magnitude_pos : (b : ℕ) → 0 < b → 0 < units_of b
magnitude_pos b h = go (dec_le 0x80_0000 b)
  where
    go : Dec (0x80_0000 ≤ b) → 0 < units_of b
    go (yes l) = rw (large b l) (mul-pos (omega arith) (pow_pos (b / 0x80_0000 - 1)))
    go (no f) = rw (small b (omega arith)) h
