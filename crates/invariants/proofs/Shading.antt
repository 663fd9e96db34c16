-- What is known of the kind of a corner that a cell takes, as shades are lent to a call; and that a call is refused alike whatever the kinds. Assumes
-- nothing.
use mathlib.Core.Path.{◌≡◌, refl, sym, ap, ◌∙◌}
use mathlib.Core.Bool.{Bool, true, false, ◌||◌}
use mathlib.Core.List.{List}
use Prim.Native.Nat.{ℕ, ◌<◌}
use borrow.Author.Tests.{eqb-true, lt-ltb, le-ltb}
use lib.Dec.{ltb}
use lib.ListN.{length, get_or}
use Rattle.sheet.specs.Shades.{Shade, bare, kind, kind_at, is_kind, takes}
use Rattle.sheet.specs.Corners.{CornerLists, corner_of}
use Rattle.sheet.specs.declared.Cell.{Cell}
use Rattle.sheet.proofs.Shades.{takes_own}
use Rattle.labels.proofs.Below.{no_both, any_ext}
use Rattle.arguments.specs.Shades.{shade_of, any_shade, shade_at, shades_of}
use Rattle.arguments.specs.Arguments.{too_short, over_limit, corner_outside, shade_outside, outside_at, some_corner_outside, out_of_range, checked}
use Rattle.invariants.specs.Calls.{KindsNotTested, ShadesInside}

is_kind_holds : (w : ℕ) (s : Shade) → is_kind w s ≡ true → s ≡ kind w
unfolding is_kind
is_kind_holds w bare e = absurd (no_both false e refl)
is_kind_holds w (kind k) e = ap kind (sym (eqb-true w k e))

-- a corner that a cell takes, where a shade stands, has the kind of the cell
pub taken_kind : (shades : List ℕ) (n : ℕ) (c : Cell) (k : ℕ) → k < n → any_shade shades n ≡ true → takes (shades_of shades n) c k ≡ true
    → shade_of (get_or shades k 0) ≡ kind (kind_at c)
unfolding shade_at
taken_kind shades n c k h any t =
    is_kind_holds (kind_at c) (shade_of (get_or shades k 0)) (rw (lt-ltb k n h) at (sym (takes_own (shades_of shades n) (kind_at c) k any) ∙ t))

-- ---- "given labels are not tested"

module _ (l : CornerLists) {shades shades' : List ℕ} (s : ShadesInside l shades) (t : ShadesInside l shades') where
  -- none is too short
  long_alike : ltb (length shades') (length l.xs) ≡ ltb (length shades) (length l.xs)
  long_alike = le-ltb _ _ t.long ∙ sym (le-ltb _ _ s.long)

  -- and no byte is out of range
  inside_alike : some_corner_outside l shades' ≡ some_corner_outside l shades
  unfolding some_corner_outside outside_at shade_outside
  inside_alike =
      any_ext (outside_at l shades') (outside_at l shades) (length l.xs)
      (λ k h. ap (λ (b : Bool). corner_outside (corner_of l k) || b) (le-ltb 2 _ (t.inside k h) ∙ sym (le-ltb 2 _ (s.inside k h))))

pub kinds_not_tested : KindsNotTested
unfolding checked too_short over_limit out_of_range
kinds_not_tested l sheet c shades s t = rw (long_alike l s t, inside_alike l s t) refl
