-- The sheet of a set of labels. Definitions only.
use Rattle.std.specs.Prelude.{◌≡◌, ℕ, ◌<◌, Some}
use mathlib.Core.List.{List, [], ◌∷◌, Memᴰ}
use Rattle.sizes.specs.Sizes.{corner_limit}
use Rattle.sheet.specs.Cells.{OnSheet}
use Rattle.sheet.specs.Words.{label_at, attached, empty_sheet}
use Rattle.sheet.specs.declared.Cell.{Cell}
use Rattle.join.specs.Rule.{Placed, Once}

-- a sheet with labels attached, one after the other
unfoldable pub labelled : List ℕ → List Placed → List ℕ
labelled sheet [] = sheet
labelled sheet (l ∷ ls) = labelled (attached sheet l.cell l.corner) ls

-- a label that a sheet can hold, of one of the corners that a frame may have
pub record Holdable (l : Placed) : Type 0 where
  pub on : OnSheet l.cell
  pub small : l.corner < corner_limit

-- the sheet of a set: each label's cell holds its corner, no other cell holds one, and the set has each corner once and each cell once
pub record HoldsSet (set : List Placed) (sheet : List ℕ) : Type 0 where
  pub is_sheet : sheet ≡ labelled empty_sheet set
  pub each : (a : Placed) → Memᴰ a set → label_at sheet a.cell ≡ Some a.corner
  pub only : (c : Cell) (k : ℕ) → label_at sheet c ≡ Some k → Memᴰ (record { corner = k; cell = c }) set
  pub once : Once set
