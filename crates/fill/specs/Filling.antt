-- What fill's inner functions ask and leave, in the terms of fill's definition (crate passes, Fill). Definitions only.
use Rattle.labels.specs.declared.Bounds.{Bounds}
use Rattle.sheet.specs.declared.Position.{Position}
use Rattle.std.specs.Prelude.{◌≡◌, true, false, List, ℕ, ◌+◌, ◌<◌, length, set, take, Option, Some, None, Err}
use Rattle.sheet.specs.Cells.{OnSheet, place_of, cell_of}
use Rattle.sheet.specs.Words.{label_at, attached}
use Rattle.sheet.specs.Corners.{Corners, seen_of, corners_in}
use Rattle.sheet.specs.declared.Cell.{Cell}
use Rattle.labels.specs.Rim.{rim}
use Rattle.labels.specs.Used.{used_on}
use Rattle.predict.specs.Predict.{prediction_of}
use Rattle.arguments.specs.declared.Settings.{Settings}
use Rattle.arguments.specs.declared.FillParams.{FillParams}
use Rattle.extension_common.specs.TryCell.{TryCellResult, try_at}
use Rattle.extension_common.specs.declared.NotAttached.{NotAttached}
use Rattle.passes.specs.Grow.{tolerances_of}
use Rattle.passes.specs.Fill.{FillState, FillRounds, box_and_strips, fill_search, fill_visit}
use Rattle.passes.specs.declared.FillStats.{FillStats}
use Rattle.region.specs.Places.{place_visited}
use Rattle.arguments.specs.Front.{over}
use Rattle.fill.specs.declared.Filling.{Filling}

-- ---- what is found at a cell

-- a cell with a prediction is tried there; one with no labelled neighbour has no candidate
unfoldable pub found_from : Corners → Settings → FillParams → List ℕ → Cell → Option Position → TryCellResult
found_from cs set p sheet c None = Err NotAttached.NoCandidates
found_from cs set p sheet c (Some at) = try_at cs sheet (tolerances_of set) (fill_search set p) c at

unfoldable pub found_at : Corners → Settings → FillParams → List ℕ → Cell → TryCellResult
found_at cs set p sheet c = found_from cs set p sheet c (prediction_of (seen_of cs.corner sheet) set.grid c)

-- ---- where the code stands

-- the corners that a pass holds
abbrev pub held : Filling → Corners
held f = corners_in f.corners.now

-- the state that the buffers hold: the sheet, and the first `made` places of the attached list
abbrev pub state_of : Filling → FillState
state_of f = record { sheet = f.sheet.now; made = take f.made f.attached.now }

-- what is said of a pass of so many rounds
abbrev pub stats_of : Filling → ℕ → FillStats
stats_of f rounds = record { added = f.made; iterations = rounds; rim = rim 1 f.sheet.now }

-- a pass on the same corners and buffers, searched alike
pub record SamePass (before after : Filling) : Type 0 where
  pub same_corners : after.corners ≡ before.corners
  pub same_setup : after.setup ≡ before.setup
  pub same_sheet : after.sheet.ghost_name ≡ before.sheet.ghost_name
  pub same_list : after.attached.ghost_name ≡ before.attached.ghost_name

-- what a function leaves: the buffers hold a state: its sheet, and its new cells at the front of the attached list, whose rest is as it was before
pub record Left (before after : Filling) (s : FillState) : Type 0 where
  pub same : SamePass before after
  pub sheet_is : after.sheet.now ≡ s.sheet
  pub list_is : after.attached.now ≡ over s.made before.attached.now
  pub made_is : after.made ≡ length s.made

-- ---- one cell

-- an unlabelled cell of the sheet is to be tried
pub record Trying (f : Filling) (c : Cell) : Type 0 where
  pub on : OnSheet c
  pub bare : label_at f.sheet.now c ≡ None

-- a corner that no cell holds is to be attached there
pub record Taking (f : Filling) (c : Cell) (k : ℕ) : Type 0 where
  pub trying : Trying f c
  pub there : k < f.corners.now.count.number
  pub free : used_on f.sheet.now k ≡ false

-- the buffers after a corner was attached: the sheet, the next place of the attached list and the corner's entry are written
pub record Wrote (before after : Filling) (c : Cell) (k : ℕ) : Type 0 where
  pub same : SamePass before after
  pub sheet_is : after.sheet.now ≡ attached before.sheet.now c k
  pub list_is : after.attached.now ≡ set before.attached.now before.made (place_of c)
  pub used_is : after.used ≡ set before.used k true
  pub made_is : after.made ≡ before.made + 1

-- a place looked at: its cell is tried if it lies in the region and is unlabelled now
abbrev pub looked_at : Corners → Settings → FillParams → Option Bounds → ℕ → FillState → FillState
looked_at cs set p around place s = place_visited (fill_visit cs set p) (λ t. t.sheet) (box_and_strips around (cell_of place)) place s

-- ---- rounds

-- no round walked yet
abbrev pub start_of : Filling → FillRounds
start_of f = record { state = state_of f; rounds = 0 }

-- what some rounds leave: the buffers hold the state after them, and the answer says how many there were
pub record RoundsLeft (before after : Filling) (rounds : ℕ) (r : FillRounds) : Type 0 where
  pub left : Left before after r.state
  pub rounds_are : rounds ≡ r.rounds
