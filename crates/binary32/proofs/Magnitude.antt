-- The magnitude of a pattern by cases. Assumes nothing.
use Prim.Native.Nat.{ℕ, ◌+◌, ◌-◌, ◌*◌, ◌/◌, ◌%◌, ◌^◌, ◌≤◌, ◌<◌}
use mathlib.Core.Path.{◌≡◌, ap, ◌∙◌}
use native.Mathlib.Nat.{pow-suc}
use native.Mathlib.Numerals.{add-one}
use native.Mathlib.Omega.{arith}
use borrow.Author.Tests.{lt-ltb, le-ltb}
use Rattle.binary32.specs.Sqrt.{units_of}

pub large : (b : ℕ) → 0x80_0000 ≤ b → units_of b ≡ (0x80_0000 + b % 0x80_0000) * 2 ^ (b / 0x80_0000 - 1)
unfolding units_of
large b h = rw (le-ltb b 0x80_0000 h)

pub small : (b : ℕ) → b < 0x80_0000 → units_of b ≡ b
unfolding units_of
small b h = rw (lt-ltb b 0x80_0000 h) (ap (λ (k : ℕ). (0 + b % 0x80_0000) * 2 ^ k) (exponent b h) ∙ digits b h)
  where
    exponent : (b : ℕ) → b < 0x80_0000 → b / 0x80_0000 - 1 ≡ 0
    exponent b h = omega arith

    digits : (b : ℕ) → b < 0x80_0000 → (0 + b % 0x80_0000) * 2 ^ 0 ≡ b
    digits b h = omega arith

-- a significand of 24 digits at the field g + 1
pub at : (g q : ℕ) → 0x80_0000 ≤ q → q < 0x100_0000 → units_of (g * 0x80_0000 + q) ≡ q * 2 ^ g
at g q l h =
    large (g * 0x80_0000 + q) (omega arith)
    ∙ ap (λ (d : ℕ). d * 2 ^ ((g * 0x80_0000 + q) / 0x80_0000 - 1)) (digits g q l h)
    ∙ ap (λ (k : ℕ). q * 2 ^ k) (field g q l h)
  where
    digits : (g q : ℕ) → 0x80_0000 ≤ q → q < 0x100_0000 → 0x80_0000 + (g * 0x80_0000 + q) % 0x80_0000 ≡ q
    digits g q l h = omega arith

    field : (g q : ℕ) → 0x80_0000 ≤ q → q < 0x100_0000 → (g * 0x80_0000 + q) / 0x80_0000 - 1 ≡ g
    field g q l h = omega arith

-- the same where the significand is 2 ^ 24, which is 2 ^ 23 at the next field
pub at_next : (g : ℕ) → units_of (g * 0x80_0000 + 0x100_0000) ≡ 0x100_0000 * 2 ^ g
at_next g =
    ap units_of (regroup g)
    ∙ at (g + 1) 0x80_0000 (omega arith) (omega arith)
    ∙ double g
  where
    regroup : (g : ℕ) → g * 0x80_0000 + 0x100_0000 ≡ (g + 1) * 0x80_0000 + 0x80_0000
    regroup g = omega arith

    scale : (p : ℕ) → 0x80_0000 * (p * 2) ≡ 0x100_0000 * p
    scale p = omega arith

    double : (g : ℕ) → 0x80_0000 * 2 ^ (g + 1) ≡ 0x100_0000 * 2 ^ g
    double g = rw (add-one g, pow-suc 2 g) (scale (2 ^ g))
