-- A number and two ends moved so far, as numbers of 64 bits. Assumes nothing.
use mathlib.Core.Path.{◌≡◌}
use native.Mathlib.Omega.{arith}
use Rattle.std.proofs.lemmas.Int.{ints}
use lib.IntN.{ℤ, pos, ◌+ℤ◌, ◌-ℤ◌}
use mir.Syntax.{w32, w64}
use mir.Val.{to_z, of_z, SFits, Fits}
use mir.Facts.{to_z-of_z}
use Prim.Native.Nat.{ℕ}

-- the numbers and the ends as numbers of 64 bits
pub past_wide : (n : ℕ) → Fits w32 n → to_z w64 (of_z w64 (pos n)) ≡ pos n
past_wide n few = grind (arith, ints, to_z-of_z, few)

module _ (z : ℤ) (fits : SFits w32 z) where
  pub wide : to_z w64 (of_z w64 z) ≡ z
  wide = grind (arith, ints, to_z-of_z, fits)

  module _ (n : ℕ) (few : Fits w32 n) where
    pub less_wide : to_z w64 (of_z w64 (z -ℤ pos n)) ≡ z -ℤ pos n
    less_wide = grind (arith, ints, to_z-of_z, fits, few)

    pub more_wide : to_z w64 (of_z w64 (z +ℤ pos n)) ≡ z +ℤ pos n
    more_wide = grind (arith, ints, to_z-of_z, fits, few)
