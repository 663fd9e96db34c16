-- The label box as it is lent from another language (document 02, 5/14): five numbers, a mark (1 where the box is empty, 0 where it is not), low i,
-- high i, low j and high j. Definitions only.
use Rattle.std.specs.Prelude.{◌≡◌, Bool, true, false, cond, List, ◌∷◌, ℕ, ℤ, pos, get_or, drop}
use Rattle.std.specs.Ordering.{int_eq}
use Rattle.labels.specs.declared.Bounds.{Bounds}
use Rattle.labels.specs.declared.kept.KeptBox.{KeptBox}

abbrev pub box_size : ℕ
box_size = 5

-- ---- numbers as a box

abbrev pub number_at : List ℤ → ℕ → ℤ
number_at around k = get_or around k (pos 0)

abbrev pub mark_of : List ℤ → ℤ
mark_of around = number_at around 0

abbrev pub bounds_told : List ℤ → Bounds
bounds_told around =
    record { low_i = number_at around 1; high_i = number_at around 2; low_j = number_at around 3; high_j = number_at around 4 }

abbrev pub kept : Bool → Bounds → KeptBox
kept empty bounds = record { empty = empty; bounds = bounds }

-- a box that differs from every sheet's: its low i is above its high i
abbrev pub no_sheets : KeptBox
no_sheets = kept false (record { low_i = pos 1; high_i = pos 0; low_j = pos 0; high_j = pos 0 })

-- the mark 0 says these bounds, 1 the empty box; any other mark gives a box that is refused
unfoldable pub box_told : List ℤ → KeptBox
box_told around =
    cond (int_eq (mark_of around) (pos 0)) (kept false (bounds_told around))
    (cond (int_eq (mark_of around) (pos 1)) (kept true (bounds_told around)) no_sheets)

-- "a mark other than 0 or 1"
pub record StrangeMark (around : List ℤ) : Type 0 where
  pub not_0 : mark_of around ≡ pos 0 → ⊥
  pub not_1 : mark_of around ≡ pos 1 → ⊥

-- ---- a box as numbers

abbrev pub mark : Bool → ℤ
mark true = pos 1
mark false = pos 0

-- at the front, the rest untouched
abbrev pub box_entered : KeptBox → List ℤ → List ℤ
box_entered k around =
    mark k.empty ∷ k.bounds.low_i ∷ k.bounds.high_i ∷ k.bounds.low_j ∷ k.bounds.high_j ∷ drop box_size around
