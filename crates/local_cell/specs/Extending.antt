-- Where the code of local stands, in the terms of local's definition (crate passes, Local). Definitions only.
use Rattle.std.specs.Prelude.{◌≡◌, Bool, true, false, List, ℕ, ◌+◌, ◌<◌, ◌≤◌, length, take, Option, Some, Float}
use Rattle.sizes.specs.Sizes.{corner_limit}
use Rattle.sheet.specs.Words.{attached, marks_cleared, SheetCell}
use Rattle.sheet.specs.Corners.{Given}
use Rattle.sheet.specs.declared.Cell.{Cell}
use Rattle.labels.specs.Labelled.{labelled_places, label_count}
use Rattle.labels.specs.Box.{box_of}
use Rattle.labels.specs.Used.{Tied, OneCell}
use Rattle.labels.specs.declared.Bounds.{Bounds}
use Rattle.extension_common.specs.TryCell.{TryCellResult}
use Rattle.passes.specs.Counting.{one_more, visits}
use Rattle.passes.specs.Local.{recorded_all, LocalState}
use Rattle.supports.specs.declared.Labelled.{Labelled}
use Rattle.remembered.specs.Remembered.{Noted}
use Rattle.remembered.specs.declared.Known.{Known}
use Rattle.remembered.specs.declared.Memory.{Memory}
use Rattle.arguments.specs.Front.{over}
use Rattle.local_cell.specs.declared.LocalProgress.{LocalProgress}

-- ---- how far the pass has come

-- the progress with one cell more counted
abbrev pub cell_counted : LocalProgress → TryCellResult → LocalProgress
cell_counted at r = record { counts = one_more r at.counts; residual = at.residual; unmatched = at.unmatched }

-- the progress with some residuals recorded
abbrev pub residuals_recorded : LocalProgress → List Float → LocalProgress
residuals_recorded at rs = record { counts = at.counts; residual = recorded_all at.residual rs; unmatched = at.unmatched }

-- the progress with some corners more passed over
abbrev pub unmatched_counted : LocalProgress → ℕ → LocalProgress
unmatched_counted at n = record { counts = at.counts; residual = at.residual; unmatched = at.unmatched + n }

-- ---- where the code stands

-- the state that the buffers hold: the sheet, as many places of the attached list as there are attached, the counts, the largest residual and the
-- corners passed over
abbrev pub state_of : List ℕ → List ℕ → LocalProgress → LocalState
state_of sheet list at =
    record { sheet = sheet; made = take at.counts.attached list; counts = at.counts; largest = at.residual; unmatched = at.unmatched }

-- what holds between two cells: the sheet belongs to the corners, no corner is at two cells, the array says which are used, the attached list has
-- a place for each corner, no more places of it are written than there are labels, there are four labels, the labelled places are listed, and the
-- box is what a search of the sheet finds
pub record Extending (n : ℕ) (sheet list : List ℕ) (used : List Bool) (labelled : Labelled) (around : Option Bounds) (at : LocalProgress) : Type 0 where
  pub given : Given n sheet
  pub one_cell : OneCell sheet
  pub tied : Tied sheet used
  pub list_long : n ≤ length list
  pub room : at.counts.attached ≤ label_count sheet
  pub four : 4 ≤ label_count sheet
  pub labels_are : labelled.count ≡ label_count sheet
  pub places_are : take labelled.count labelled.places ≡ labelled_places sheet
  pub around_is : around ≡ box_of sheet

-- the buffers hold a state: its sheet, its new cells at the front of the attached list, whose rest is as it was before, its counts, its largest
-- residual and its corners passed over
pub record Holds (s : LocalState) (before sheet list : List ℕ) (at : LocalProgress) : Type 0 where
  pub sheet_is : sheet ≡ s.sheet
  pub list_is : list ≡ over s.made before
  pub made_is : at.counts.attached ≡ length s.made
  pub counts_are : at.counts ≡ s.counts
  pub largest_is : at.residual ≡ s.largest
  pub unmatched_is : at.unmatched ≡ s.unmatched

-- ---- one cell

-- the sheet with a corner attached to a cell and both marks of the cell cleared
abbrev pub attached_clear : List ℕ → Cell → ℕ → List ℕ
attached_clear sheet c k = marks_cleared (attached sheet c k) c

-- a corner can be written: to the sheet, to the next place of the attached list, to its entry and to the labelled places; and it can be counted
pub record Writable (sheet list : List ℕ) (at : LocalProgress) (c : Cell) (k : ℕ) : Type 0 where
  pub sheet_cell : SheetCell sheet c
  pub entry : k < corner_limit
  pub space : at.counts.attached < length list
  pub countable : visits at.counts < 4294967296
  pub few : label_count (attached_clear sheet c k) ≤ corner_limit

-- what is known of one cell noted where no shade stands, and nothing where one does
pub record NotedIfBare (shaded : Bool) (memory : Memory) (c : Cell) (known : Known) (memory' : Memory) : Type 0 where
  pub bare : shaded ≡ false → Noted memory c (Some known) memory'
  pub kept : shaded ≡ true → memory' ≡ memory
