-- Laws of the label box as five numbers: what is entered is told back, and with a mark other than 0 or 1 it is a box that differs from every sheet's.
-- Assumes nothing.
use Rattle.std.specs.Prelude.{Bool, true, false, List, ℕ, ℤ, pos, Some}
use Rattle.std.specs.Ordering.{int_eq}
use Rattle.std.proofs.lemmas.Bool.Decides.{Decides-int_eq}
use mathlib.Core.Path.{◌≡◌, refl, sym, ap, ◌∙◌}
use Rattle.labels.specs.Box.{box_of}
use Rattle.labels.specs.Kept.{around_of, box_differs}
use Rattle.labels.specs.declared.Bounds.{Bounds}
use Rattle.labels.specs.declared.kept.KeptBox.{KeptBox}
use Rattle.labels.proofs.Box.{box_of_framed}
use Rattle.labels.proofs.Keeping.{kept_right}
use Rattle.grid_words.specs.Around.{StrangeMark, mark_of, kept, no_sheets, box_told, box_entered}

-- ---- what is entered is told back

pub told_back : (k : KeptBox) (around : List ℤ) → box_told (box_entered k around) ≡ k
unfolding box_told
told_back k around = go k.empty k.bounds
  where
    go : (t : Bool) (b : Bounds) → box_told (box_entered (kept t b) around) ≡ kept t b
    go true b = refl
    go false b = refl

-- ---- a mark other than 0 or 1

module _ (around : List ℤ) (strange : StrangeMark around) where
  strange_told : box_told around ≡ no_sheets
  unfolding box_told
  strange_told = go (int_eq (mark_of around) (pos 0)) refl (int_eq (mark_of around) (pos 1)) refl
    where
      go : (t : Bool) → int_eq (mark_of around) (pos 0) ≡ t → (u : Bool) → int_eq (mark_of around) (pos 1) ≡ u → box_told around ≡ no_sheets
      go true e u f = absurd (strange.not_0 ((Decides-int_eq _ _).0 e))
      go false e true f = absurd (strange.not_1 ((Decides-int_eq _ _).0 f))
      go false e false f = rw (e, f) refl

  -- in the box of a sheet the low i is at most the high i
  pub strange_differs : (sheet : List ℕ) → box_differs (box_told around) sheet ≡ true
  unfolding around_of
  strange_differs sheet = go (box_differs (box_told around) sheet) refl
    where
      found : box_differs (box_told around) sheet ≡ false → box_of sheet ≡ Some no_sheets.bounds
      found e = sym (kept_right _ sheet e) ∙ ap around_of strange_told

      go : (t : Bool) → box_differs (box_told around) sheet ≡ t → t ≡ true
      go true e = refl
      go false e = absurd ((box_of_framed sheet no_sheets.bounds (found e)).i_ordered.le)
