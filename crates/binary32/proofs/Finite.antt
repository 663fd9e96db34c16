-- Finite values: as std has them, and by the pattern; what lies in a range is finite, and either zero lies where the other does.
-- Assumes nothing.
use Prim.Native.Nat.{ℕ, ◌%◌, ◌^◌, ◌≤◌, ◌<◌}
use mathlib.Core.Path.{◌≡◌, refl, sym, ap, ◌∙◌}
use mathlib.Core.Bool.{Bool, true, false, ◌&&◌, true≢false}
use mathlib.Core.Logic.{◌⊎◌, inl, inr}
use lib.Dec.{leb}
use lib.IntN.{pos}
use lib.Ieee.{Float, nan, inf, fin, binary32, of_bits, of_int, lt, le, eq}
use lib.Ieee.Exact.{HasValue}
use Rattle.std.specs.Float.{float_is_finite}
use Rattle.binary32.specs.Sqrt.{units_of}
use Rattle.binary32.specs.Ranges.{is_finite, ends_of, between, in_range}
use Rattle.binary32.specs.declared.ranges.Ends.{Ends}
use Rattle.binary32.proofs.Patterns.{value, beyond}
use Rattle.binary32.specs.declared.ranges.Quantity.{Quantity}
use Rattle.binary32.specs.declared.ranges.Quantity.TheVariants.{Position, Pitch, CellSize, AxisPart, Band, Multiple, Factor}

-- `x.is_finite()`
pub finite_said : (x : Float) → float_is_finite x ≡ is_finite x
unfolding float_is_finite is_finite
finite_said nan = refl
finite_said (inf s) = refl
finite_said (fin s m e) = refl

-- what lies between the infinities is finite
pub below_top : (x : Float) → lt (inf true) x ≡ true → lt x (inf false) ≡ is_finite x
unfolding lt is_finite
below_top nan h = refl
below_top (inf true) h = absurd (true≢false (sym h))
below_top (inf false) h = refl
below_top (fin s m e) h = refl

pub not_above_bottom : (x : Float) → lt (inf true) x ≡ false → false ≡ is_finite x
unfolding lt is_finite
not_above_bottom nan h = refl
not_above_bottom (inf true) h = refl
not_above_bottom (inf false) h = absurd (true≢false h)
not_above_bottom (fin s m e) h = absurd (true≢false h)

-- ---- by the pattern

pub finite_bits : (b : ℕ) → b % 0x8000_0000 < 0x7f80_0000 → is_finite (of_bits binary32 b) ≡ true
unfolding is_finite
finite_bits b h = go (of_bits binary32 b) (value b h)
  where
    go : (v : Float) → HasValue v (leb 0x8000_0000 b) (units_of (b % 0x8000_0000)) (2 ^ 149) → is_finite v ≡ true
    go nan w = absurd w
    go (inf s) w = absurd w
    go (fin s m e) w = refl

pub infinite_bits : (b : ℕ) → 0x7f80_0000 ≤ b % 0x8000_0000 → is_finite (of_bits binary32 b) ≡ false
unfolding is_finite
infinite_bits b h = go (beyond b h)
  where
    go : (of_bits binary32 b ≡ inf (leb 0x8000_0000 b)) ⊎ (of_bits binary32 b ≡ nan) → is_finite (of_bits binary32 b) ≡ false
    go (inl e) = ap is_finite e
    go (inr e) = ap is_finite e

-- ---- in a range

-- what lies between finite ends is finite
pub between_finite : (ends : Ends) (x : Float) → is_finite ends.low ≡ true → is_finite ends.high ≡ true → between ends x ≡ true → is_finite x ≡ true
unfolding is_finite le lt eq
between_finite ends x l h k = go ends.low ends.high x l h k
  where
    no : (a b : Bool) → b ≡ false → (a && b) ≡ true → ⊥
    no true b e k = true≢false (sym k ∙ e)
    no false b e k = true≢false (sym k)

    go : (low high x : Float) → is_finite low ≡ true → is_finite high ≡ true → (le low x && le x high) ≡ true → is_finite x ≡ true
    go nan high x l h k = absurd (true≢false (sym l))
    go (inf s) high x l h k = absurd (true≢false (sym l))
    go (fin s m e) nan x l h k = absurd (true≢false (sym h))
    go (fin s m e) (inf t) x l h k = absurd (true≢false (sym h))
    go (fin s m e) (fin t n d) nan l h k = absurd (true≢false (sym k))
    go (fin s m e) (fin t n d) (inf true) l h k = absurd (true≢false (sym k))
    go (fin s m e) (fin t n d) (inf false) l h k = absurd (true≢false (sym k))
    go (fin s m e) (fin t n d) (fin u o g) l h k = refl

finite_ends : (q : Quantity) → (is_finite (ends_of q).low ≡ true) × (is_finite (ends_of q).high ≡ true)
unfolding is_finite ends_of of_int
finite_ends Position = (refl, refl)
finite_ends Pitch = (refl, refl)
finite_ends CellSize = (refl, refl)
finite_ends AxisPart = (refl, refl)
finite_ends Band = (refl, refl)
finite_ends Multiple = (refl, refl)
finite_ends Factor = (refl, refl)

pub in_range_finite : (q : Quantity) (x : Float) → in_range q x ≡ true → is_finite x ≡ true
in_range_finite q x h = between_finite (ends_of q) x (finite_ends q).0 (finite_ends q).1 h

-- by value: -0 is 0
pub zeros_alike : (q : Quantity) → in_range q (fin true 0 (pos 0)) ≡ in_range q (fin false 0 (pos 0))
unfolding ends_of of_int le lt eq
zeros_alike Position = refl
zeros_alike Pitch = refl
zeros_alike CellSize = refl
zeros_alike AxisPart = refl
zeros_alike Band = refl
zeros_alike Multiple = refl
zeros_alike Factor = refl
