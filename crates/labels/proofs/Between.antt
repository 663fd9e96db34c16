-- A number against two ends by std's `contains`, which asks `partial_cmp`, as a test has it. Assumes nothing.
use mathlib.Core.Path.{◌≡◌, ap, ◌∙◌}
use mathlib.Core.Bool.{false, not, ◌&&◌, ◌||◌, cond}
use native.Mathlib.Omega.{arith}
use Rattle.std.proofs.lemmas.Int.{ints}
use Prim.Native.Nat.{ℕ, ◌≤◌}
use lib.IntN.{ℤ, pos, ◌-ℤ◌}
use lib.Signed.{le_z, lt_z}
use mir.Syntax.{w32}
use mir.Val.{to_z, of_z}
use mir.Facts.{to_z-of_z}
use Rattle.std.specs.Ordering.{as_partial_cmp, int_cmp, partial_le, partial_lt}
use Rattle.std.specs.declared.ops.RangeInclusive.{RangeInclusive}
use Rattle.std.specs.Range.{range_inclusive_start, range_inclusive_end, range_inclusive_exhausted, range_inclusive_contains}
use Rattle.labels.specs.Rim.{outermost}

-- at most by `partial_cmp`, and by value
at_most : (x y : ℤ) → partial_le (as_partial_cmp int_cmp) x y ≡ le_z x y
at_most x y = grind (arith, ints)

-- what `contains` answers at a range that still has its end
pub contained : (s : RangeInclusive ℤ) (a b x : ℤ) → range_inclusive_start s ≡ a → range_inclusive_end s ≡ b → range_inclusive_exhausted s ≡ false
    → range_inclusive_contains (as_partial_cmp int_cmp) s x ≡ (le_z a x && le_z x b)
contained s a b x starts ends whole =
    ap (λ q. partial_le (as_partial_cmp int_cmp) s.start x && cond q (partial_lt (as_partial_cmp int_cmp) x s.end) (partial_le (as_partial_cmp int_cmp) x s.end)) whole
    ∙ ap (λ l. l && partial_le (as_partial_cmp int_cmp) x s.end) (at_most s.start x)
    ∙ ap (λ r. le_z s.start x && r) (at_most x s.end)
    ∙ ap (λ u. le_z u x && le_z x s.end) starts
    ∙ ap (λ u. le_z a x && le_z x u) ends

-- not within two ends: below the one or above the other
outside : (a b x : ℤ) → not (le_z a x && le_z x b) ≡ (lt_z x a || lt_z b x)
outside a b x = grind (arith, ints)

-- the ends between the outermost lines, as numbers of the machine
pub low_end : (depth : ℕ) → depth ≤ 64 → to_z w32 (of_z w32 (to_z w32 depth -ℤ pos 64)) ≡ pos depth -ℤ pos 64
low_end depth h = grind (arith, ints, to_z-of_z, h)

pub high_end : (depth : ℕ) → depth ≤ 64 → to_z w32 (of_z w32 (pos 63 -ℤ to_z w32 depth)) ≡ pos 63 -ℤ pos depth
high_end depth h = grind (arith, ints, to_z-of_z, h)

-- a line that is not between them
pub not_between : (s : RangeInclusive ℤ) (depth : ℕ) (z : ℤ) → depth ≤ 64 → range_inclusive_start s ≡ to_z w32 (of_z w32 (to_z w32 depth -ℤ pos 64))
    → range_inclusive_end s ≡ to_z w32 (of_z w32 (pos 63 -ℤ to_z w32 depth)) → range_inclusive_exhausted s ≡ false
    → not (range_inclusive_contains (as_partial_cmp int_cmp) s z) ≡ outermost depth z
not_between s depth z h starts ends whole =
    ap not (contained s _ _ z (starts ∙ low_end depth h) (ends ∙ high_end depth h) whole) ∙ outside (pos depth -ℤ pos 64) (pos 63 -ℤ pos depth) z
