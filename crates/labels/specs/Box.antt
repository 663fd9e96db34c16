-- The label box: the lowest and highest labelled i and j, or empty. First as a rule that a box of given cells meets, then
-- as a box computed from the sheet. Definitions only.
use Rattle.std.specs.Prelude.{◌≡◌, cond, ℕ, ℤ, ◌≤ℤ◌, Option, Some, None}
use mathlib.Core.List.{List, foldl}
use Rattle.std.specs.Int.Signed.{le_z}
use Rattle.sheet.specs.Cells.{cell_of}
use Rattle.sheet.specs.declared.Cell.{Cell}
use Rattle.labels.specs.Labelled.{LabelledCell, labelled_places}
use Rattle.labels.specs.declared.Bounds.{Bounds}

-- ---- the rule

-- a cell inside bounds, ends included
pub record Inside (b : Bounds) (c : Cell) : Type 0 where
  pub from_low_i : b.low_i ≤ℤ c.i
  pub to_high_i : c.i ≤ℤ b.high_i
  pub from_low_j : b.low_j ≤ℤ c.j
  pub to_high_j : c.j ≤ℤ b.high_j

-- one of the cells has this number as its i (or j, whichever `line` reads)
pub record Taken (cells : Cell → Type 0) (line : Cell → ℤ) (z : ℤ) : Type 0 where
  pub cell : Cell
  pub among : cells cell
  pub there : line cell ≡ z

-- bounds of cells: each lies inside, and each of the four numbers is that of one of them
pub record Bounding (cells : Cell → Type 0) (b : Bounds) : Type 0 where
  pub all_inside : (c : Cell) → cells c → Inside b c
  pub low_i_taken : Taken cells (λ c. c.i) b.low_i
  pub high_i_taken : Taken cells (λ c. c.i) b.high_i
  pub low_j_taken : Taken cells (λ c. c.j) b.low_j
  pub high_j_taken : Taken cells (λ c. c.j) b.high_j

-- the box of cells: empty where there is none, else their bounds
abbrev pub IsBoxOf : (Cell → Type 0) → Option Bounds → Type 0
IsBoxOf cells None = (c : Cell) → cells c → ⊥
IsBoxOf cells (Some b) = Bounding cells b

-- the label box
abbrev pub IsBox : List ℕ → Option Bounds → Type 0
IsBox sheet box = IsBoxOf (LabelledCell sheet) box

-- ---- the box computed

unfoldable pub lower_of : ℤ → ℤ → ℤ
lower_of a b = cond (le_z a b) a b

unfoldable pub higher_of : ℤ → ℤ → ℤ
higher_of a b = cond (le_z b a) a b

-- the bounds of one cell, and of what is in one of two bounds
abbrev pub bounds_of : Cell → Bounds
bounds_of c = record { low_i = c.i; high_i = c.i; low_j = c.j; high_j = c.j }

abbrev pub bounds_joined : Bounds → Bounds → Bounds
bounds_joined a b =
    record {
      low_i = lower_of a.low_i b.low_i;
      high_i = higher_of a.high_i b.high_i;
      low_j = lower_of a.low_j b.low_j;
      high_j = higher_of a.high_j b.high_j;
    }

-- the box with one cell more
unfoldable pub widened : Option Bounds → Cell → Option Bounds
widened None c = Some (record { low_i = c.i; high_i = c.i; low_j = c.j; high_j = c.j })
widened (Some b) c =
    Some
    (record {
      low_i = lower_of b.low_i c.i;
      high_i = higher_of b.high_i c.i;
      low_j = lower_of b.low_j c.j;
      high_j = higher_of b.high_j c.j;
    })

-- the box of cells given by their places
abbrev pub box_around : List ℕ → Option Bounds
box_around places = foldl (λ box p. widened box (cell_of p)) None places

unfoldable pub box_of : List ℕ → Option Bounds
box_of sheet = box_around (labelled_places sheet)
