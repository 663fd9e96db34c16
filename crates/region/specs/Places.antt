-- A round of fill or local, a place at a time, as the code walks it. Definitions only.
use Rattle.std.specs.Prelude.{Bool, not, ◌&&◌, cond, List, ℕ}
use Rattle.sheet.specs.Cells.{cell_of}
use Rattle.sheet.specs.Words.{label_at}
use Rattle.sheet.specs.declared.Cell.{Cell}
use Rattle.labels.specs.Labelled.{names_corner}

-- a place looked at: its cell is visited if it lies in the region, which is told, and is unlabelled on the sheet of now
unfoldable pub place_visited : {S : Type 0} → (Cell → S → S) → (S → List ℕ) → Bool → ℕ → S → S
place_visited visit sheet inside place s = cond (inside && not (names_corner (label_at (sheet s) (cell_of place)))) (visit (cell_of place) s) s
