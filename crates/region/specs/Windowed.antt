-- The window of a round: the lines of the sheet about the label box, as numbers from 0 to 127, and the next place in it. Definitions only.
use Rattle.std.specs.Prelude.{◌≡◌, true, ℕ, ◌/◌, ◌%◌, ◌<◌, ◌≤◌, Option, Some, None}
use Rattle.sizes.specs.Sizes.{place_count}
use Rattle.sheet.specs.Cells.{OnSheet, cell_of}
use Rattle.labels.specs.declared.Bounds.{Bounds}
use Rattle.passes.specs.Fill.{near_i, near_j}
use Rattle.region.specs.declared.Window.{Window}

-- bounds that are cells of the sheet, and a box that is empty or has such bounds
pub record BoundsOn (b : Bounds) : Type 0 where
  pub low_on : OnSheet (record { i = b.low_i; j = b.low_j })
  pub high_on : OnSheet (record { i = b.high_i; j = b.high_j })

pub record BoxOn (around : Option Bounds) : Type 0 where
  pub bounds_on : (b : Bounds) → around ≡ Some b → BoundsOn b

-- a place in a window
pub record InWindow (w : Window) (p : ℕ) : Type 0 where
  pub from_i : w.start_i ≤ p / 128
  pub to_i : p / 128 < w.end_i
  pub from_j : w.start_j ≤ p % 128
  pub to_j : p % 128 < w.end_j

-- a window of lines of the sheet
pub record WindowFits (w : Window) : Type 0 where
  pub start_i_in : w.start_i < 128
  pub end_i_in : w.end_i ≤ 128
  pub start_j_in : w.start_j < 128

-- a window that has all places that are at most so many lines past the box, by i and by j
pub record Windowed (past : ℕ) (around : Option Bounds) (w : Window) : Type 0 where
  pub fits : WindowFits w
  pub covers : (b : Bounds) → around ≡ Some b → (m n p : ℕ) → m ≤ past → n ≤ past → p < place_count → near_i m b (cell_of p) ≡ true → near_j n b (cell_of p) ≡ true → InWindow w p

-- the next place from one on that is in the window, or 16,384: none before it is
pub record NextIn (w : Window) (from r : ℕ) : Type 0 where
  pub start : from ≤ r
  pub upto : r ≤ place_count
  pub out : (p : ℕ) → from ≤ p → p < r → InWindow w p → ⊥

-- the next place of the sheet from one on that may be in the window, if there is one
abbrev pub IsNextIn : Window → ℕ → Option ℕ → Type 0
IsNextIn w from (Some r) = NextIn w from r × (r < place_count)
IsNextIn w from None = NextIn w from place_count
