-- The label box as it is kept beside a sheet (document 02, 5/14: "keep these four numbers beside the sheet, with a mark for an empty one, whose
-- numbers then count for nothing"). Definitions only.
use Rattle.std.specs.Prelude.{Bool, true, false, cond, not, ◌&&◌, List, ℕ, pos, Option, Some, None}
use Rattle.std.specs.Ordering.{int_eq}
use Rattle.labels.specs.declared.Bounds.{Bounds}
use Rattle.labels.specs.declared.kept.KeptBox.{KeptBox}
use Rattle.labels.specs.Box.{box_of}

-- the box that is kept: with the mark an empty one, "whose numbers then count for nothing"
unfoldable pub around_of : KeptBox → Option Bounds
around_of k = cond k.empty None (Some k.bounds)

-- a box as it is answered: the numbers of an empty one are 0
abbrev pub no_bounds : Bounds
no_bounds = record { low_i = pos 0; high_i = pos 0; low_j = pos 0; high_j = pos 0 }

unfoldable pub kept_of : Option Bounds → KeptBox
kept_of None = record { empty = true; bounds = no_bounds }
kept_of (Some b) = record { empty = false; bounds = b }

-- the box that is kept beside a sheet: what a search of it finds
abbrev pub box_kept : List ℕ → KeptBox
box_kept sheet = kept_of (box_of sheet)

-- ---- "a box that differs from it"

abbrev pub same_bounds : Bounds → Bounds → Bool
same_bounds a b = int_eq a.low_i b.low_i && (int_eq a.high_i b.high_i && (int_eq a.low_j b.low_j && int_eq a.high_j b.high_j))

unfoldable pub same_box : Option Bounds → Option Bounds → Bool
same_box None None = true
same_box None (Some b) = false
same_box (Some a) None = false
same_box (Some a) (Some b) = same_bounds a b

unfoldable pub box_differs : KeptBox → List ℕ → Bool
box_differs k sheet = not (same_box (around_of k) (box_of sheet))
