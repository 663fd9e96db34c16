-- The cells of a round as the code tells them: by the label box and by the rows and columns that have a label (document 01, "Sheet"; what it says
-- of them is `local_region` of crate passes, Local). Definitions only.
use Rattle.labels.specs.declared.Bounds.{Bounds}
use Rattle.std.specs.Prelude.{◌≡◌, Bool, false, ◌&&◌, ◌||◌, List, [], ◌∷◌, ℕ, ◌/◌, ◌%◌, ◌<◌, eqb, length, get_or, Option, Some, None}
use Rattle.sheet.specs.Cells.{cell_of}
use Rattle.sheet.specs.declared.Cell.{Cell}
use Rattle.labels.specs.Labelled.{labelled_places}
use Rattle.labels.specs.Box.{box_of}
use Rattle.passes.specs.Fill.{near_i, near_j}
use Rattle.passes.specs.Local.{past_i, past_j}
use Rattle.region.specs.declared.Region.{Region}

-- ---- the lines that have a label

-- one of some places has this line, its row or its column
unfoldable pub on_line : (ℕ → ℕ) → ℕ → List ℕ → Bool
on_line line r [] = false
on_line line r (p ∷ ps) = eqb (line p) r || on_line line r ps

-- an array of 128 lines: entry r says whether one of some places has the line r
pub record Lines (line : ℕ → ℕ) (ps : List ℕ) (marks : List Bool) : Type 0 where
  pub size : length marks ≡ 128
  pub at : (r : ℕ) → r < 128 → get_or marks r false ≡ on_line line r ps

-- ---- the region

-- the label box of a sheet, and its labelled rows and columns
pub record RegionFound (sheet : List ℕ) (region : Region) : Type 0 where
  pub around_is : region.around ≡ box_of sheet
  pub rows_are : Lines (λ p. p % 128) (labelled_places sheet) region.rows
  pub columns_are : Lines (λ p. p / 128) (labelled_places sheet) region.columns

-- a line that is marked
abbrev pub marked : List Bool → ℕ → Bool
marked marks r = get_or marks r false

-- a place of a round: in the box, in a strip of the depth on a marked row or column, or in a corner block
unfoldable pub region_around : ℕ → List Bool → List Bool → Option Bounds → ℕ → Cell → Bool
region_around depth rows columns None p c = false
region_around depth rows columns (Some b) p c =
    (near_i 0 b c && near_j 0 b c)
    || ((past_i depth b c && marked rows (p % 128))
    || ((past_j depth b c && marked columns (p / 128))
    || (past_i depth b c && past_j depth b c)))

abbrev pub region_at : ℕ → Region → ℕ → Bool
region_at depth region p = region_around depth region.rows region.columns region.around p (cell_of p)
