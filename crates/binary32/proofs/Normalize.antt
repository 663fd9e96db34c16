-- A positive pattern as a significand of 24 digits and an exponent: what `split` gives. Assumes nothing.
use Prim.Native.Nat.{ℕ, suc, ◌+◌, ◌-◌, ◌*◌, ◌/◌, ◌%◌, ◌^◌, ◌≤◌, ◌<◌}
use mathlib.Core.Path.{◌≡◌, sym, ap, ◌∙◌}
use native.Mathlib.Nat.{mul_assoc, mod-eq_of_lt, lt_of_not-le, lt_irrefl, le_trans, lt_of_le_of_lt, lt_of_lt_of_le, le_of_eq, mul-le-mul_right, mul-lt-mul_of_pos_right}
use native.Mathlib.Omega.{arith}
use lib.Count.{count_leading_zeros, leading_top}
use lib.Pow.{pow-add, pow_pos, pow_mono}
use Rattle.binary32.specs.Steps.{Normalized}
use Rattle.binary32.proofs.Magnitude.{large, small}

-- `omega` refuses a number as long as 2 ^ 149, so powers are joined by law
joined : (d i j n : ℕ) → i + j ≡ n → d * 2 ^ i * 2 ^ j ≡ d * 2 ^ n
joined d i j n e = mul_assoc d (2 ^ i) (2 ^ j) ∙ ap (λ (x : ℕ). d * x) (sym (pow-add 2 i j) ∙ ap (λ (x : ℕ). 2 ^ x) e)

pub normal : (b : ℕ) → 0x80_0000 ≤ b → b < 0x7f80_0000 → Normalized b (0x80_0000 + b % 0x80_0000) (b / 0x80_0000 + 148)
normal b l h = record {
  low = omega arith;
  high = omega arith;
  least = omega arith;
  most = omega arith;
  value = sym (ap (λ (x : ℕ). x * 2 ^ 149) (large b l) ∙ joined (0x80_0000 + b % 0x80_0000) (b / 0x80_0000 - 1) 149 (b / 0x80_0000 + 148) (omega arith));
}

pow_lt_back : (i k : ℕ) → 2 ^ i < 2 ^ k → i < k
pow_lt_back i k h = lt_of_not-le (λ (g : k ≤ i). lt_irrefl (2 ^ i) (lt_of_lt_of_le h (pow_mono g)))

-- a number of 1 to 23 digits, moved up until it has 24
pub record Lifted (a z : ℕ) : Type 0 where
  pub eight : 8 ≤ z
  pub most : z ≤ 31
  pub low : 2 ^ 23 ≤ a * 2 ^ (z - 8)
  pub high : a * 2 ^ (z - 8) < 2 ^ 24

pub lifted : (a : ℕ) → 0 < a → a < 2 ^ 23 → Lifted a (count_leading_zeros 32 a)
lifted a p h =
    let z = count_leading_zeros 32 a in
    let t = leading_top 32 a p (omega arith) in
    let j = t.0 in
    let e : z + suc j ≡ 32 = t.1 in
    let j_lt : j < 23 = pow_lt_back j 23 (lt_of_le_of_lt t.2 h) in
    record {
      eight = omega arith;
      most = omega arith;
      low =
          le_trans (le_of_eq (ap (λ (n : ℕ). 2 ^ n) (up z j e j_lt) ∙ pow-add 2 j (z - 8))) (mul-le-mul_right (2 ^ (z - 8)) t.2);
      high =
          lt_of_lt_of_le (mul-lt-mul_of_pos_right t.3 (pow_pos (z - 8))) (le_of_eq (sym (pow-add 2 (suc j) (z - 8)) ∙ ap (λ (n : ℕ). 2 ^ n) (top z j e j_lt)));
    }
  where
    up : (z j : ℕ) → z + suc j ≡ 32 → j < 23 → 23 ≡ j + (z - 8)
    up z j e h = omega arith

    top : (z j : ℕ) → z + suc j ≡ 32 → j < 23 → suc j + (z - 8) ≡ 24
    top z j e h = omega arith

pub subnormal : (b z : ℕ) → b < 0x80_0000 → Lifted (b % 0x80_0000) z → Normalized b (b % 0x80_0000 * 2 ^ (z - 8) % 2 ^ 32) (149 - (z - 8))
subnormal b z h u =
    let a = b % 0x80_0000 in
    let m = a * 2 ^ (z - 8) in
    let whole : m % 2 ^ 32 ≡ m = mod-eq_of_lt (omega arith) in
    rw whole (record {
      low = u.low;
      high = u.high;
      least = omega arith;
      most = omega arith;
      value = joined a (z - 8) (149 - (z - 8)) 149 (omega arith) ∙ ap (λ (x : ℕ). x * 2 ^ 149) (mod-eq_of_lt h ∙ sym (small b h));
    })
