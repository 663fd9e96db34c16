-- The rim: "yes exactly if a cell labelled at the pass's end lies in the outermost ring; for local, in the outermost depth
-- rings". Definitions only.
use Rattle.std.specs.Prelude.{◌≡◌, Bool, true, ◌&&◌, ◌||◌, List, ℕ, ◌≤◌, ℤ, pos, ◌-ℤ◌, length, get_or}
use Rattle.std.specs.Int.Signed.{lt_z}
use Rattle.sizes.specs.Sizes.{place_count}
use Rattle.sheet.specs.Cells.{cell_of}
use Rattle.sheet.specs.declared.Cell.{Cell}
use Rattle.labels.specs.Labelled.{any_below, is_labelled, LabelledCell}

-- below -64 + depth, or above 63 - depth
abbrev pub outermost : ℕ → ℤ → Bool
outermost depth z = lt_z z (pos depth -ℤ pos 64) || lt_z (pos 63 -ℤ pos depth) z

-- a cell in the outermost depth rings: by its i or by its j
unfoldable pub on_rim : ℕ → Cell → Bool
on_rim depth c = outermost depth c.i || outermost depth c.j

-- the rule: a labelled cell lies in the outermost depth rings
pub record RimReached (depth : ℕ) (sheet : List ℕ) : Type 0 where
  pub cell : Cell
  pub labelled : LabelledCell sheet cell
  pub in_rings : on_rim depth cell ≡ true

-- a place that is labelled, as its word says, and on the rim
unfoldable pub rim_at : ℕ → ℕ → ℕ → Bool
rim_at depth w p = is_labelled w && on_rim depth (cell_of p)

-- the rim computed
unfoldable pub rim : ℕ → List ℕ → Bool
rim depth sheet = any_below place_count (λ p. rim_at depth (get_or sheet p 0) p)

-- a sheet that is long enough, and a depth of at most 64 rings, which is the whole sheet
pub record RimAsked (sheet : List ℕ) (depth : ℕ) : Type 0 where
  pub long : place_count ≤ length sheet
  pub shallow : depth ≤ 64
