-- What the methods of `LocalWork` ask and leave, in the terms of local's definition (crate passes, Local). Definitions only.
use Rattle.std.specs.Prelude.{◌≡◌, true, false, List, ℕ, ◌*◌, ◌<◌, ◌≤◌, set, Some, None, Ok}
use Rattle.sizes.specs.Sizes.{corner_limit}
use Rattle.sheet.specs.Cells.{OnSheet, place_of}
use Rattle.sheet.specs.Words.{label_at}
use Rattle.sheet.specs.Corners.{Corners, corners_in}
use Rattle.sheet.specs.declared.Cell.{Cell}
use Rattle.sheet.specs.declared.Position.{Position}
use Rattle.labels.specs.Used.{used_on}
use Rattle.arguments.specs.declared.Settings.{Settings}
use Rattle.arguments.specs.declared.LocalExtensionParams.{LocalExtensionParams}
use Rattle.passes.specs.Counting.{one_more, visits}
use Rattle.passes.specs.Local.{LocalState}
use Rattle.supports.specs.Nearest.{Gathered}
use Rattle.remembered.specs.Remembered.{KnownAt, Remembered}
use Rattle.remembered.specs.declared.Finding.{Finding}
use Rattle.local_cell.specs.Extending.{state_of, Holds, attached_clear}
use Rattle.local_cell.specs.declared.LocalWork.{LocalWork}

-- ---- where the code stands

-- the corners that a pass holds
abbrev pub held : LocalWork → Corners
held w = corners_in w.setup.corners.now

-- the state that its buffers hold
abbrev pub state_in : LocalWork → LocalState
state_in w = state_of w.sheet.now w.attached.now w.progress

-- a pass that is given the same, on the same buffers
pub record SamePass (before after : LocalWork) : Type 0 where
  pub same_setup : after.setup ≡ before.setup
  pub same_sheet : after.sheet.ghost_name ≡ before.sheet.ghost_name
  pub same_list : after.attached.ghost_name ≡ before.attached.ghost_name
  pub same_labelled : after.labelled.ghost_name ≡ before.labelled.ghost_name
  pub same_memory : after.memory.ghost_name ≡ before.memory.ghost_name

-- what a function leaves: the buffers hold a state
abbrev pub Left : LocalWork → LocalWork → LocalState → Type 0
Left before after s = Holds s before.attached.now after.sheet.now after.attached.now after.progress

-- what is remembered of the cells holds, on the sheet of now and with the largest residual of now; and no more corners were passed over than 1,024
-- for each visit
pub record Recalls (set : Settings) (p : LocalExtensionParams) (cs : Corners) (sheet : List ℕ) (work : LocalWork) : Type 0 where
  pub remembered : Remembered cs set p work.progress.residual sheet work.memory.now
  pub unmatched_few : work.progress.unmatched ≤ corner_limit * visits work.progress.counts

abbrev pub RecallsIn : LocalWork → Type 0
RecallsIn w = Recalls w.setup.settings w.setup.params (held w) w.sheet.now w

-- ---- one cell

-- an unlabelled cell of the sheet is to be tried, and its visit can be counted
pub record Trying (w : LocalWork) (c : Cell) : Type 0 where
  pub on : OnSheet c
  pub bare : label_at w.sheet.now c ≡ None
  pub countable : visits w.progress.counts < 4294967296

-- it is known where the fit maps the cell to
pub record Foretold (set : Settings) (p : LocalExtensionParams) (cs : Corners) (sheet : List ℕ) (work : LocalWork) (c : Cell) (reach : ℕ)
    (prediction : Position) : Type 0 where
  pub known : KnownAt cs set p work.progress.residual sheet c (Some (record { reach = reach; finding = Finding.Predicted prediction }))
  pub small : reach < 8192

abbrev pub ForetoldIn : LocalWork → Cell → ℕ → Position → Type 0
ForetoldIn w c reach prediction = Foretold w.setup.settings w.setup.params (held w) w.sheet.now w c reach prediction

-- a corner that no cell holds is to be attached there
pub record Taking (w : LocalWork) (c : Cell) (k : ℕ) : Type 0 where
  pub trying : Trying w c
  pub there : k < w.setup.corners.now.count.number
  pub free : used_on w.sheet.now k ≡ false

-- the buffers after a corner was attached: the sheet, the next place of the attached list, the corner's entry and the labelled places
pub record Wrote (sheet list : List ℕ) (work : LocalWork) (c : Cell) (k : ℕ) (sheet' list' : List ℕ) (work' : LocalWork) : Type 0 where
  pub sheet_is : sheet' ≡ attached_clear sheet c k
  pub list_is : list' ≡ set list work.progress.counts.attached (place_of c)
  pub used_is : work'.used ≡ set work.used k true
  pub places_are : Gathered (attached_clear sheet c k) work.labelled.now.places work'.labelled.now.places work'.labelled.now.count
  pub counts_are : work'.progress.counts ≡ one_more (Ok k) work.progress.counts
  pub largest_is : work'.progress.residual ≡ work.progress.residual
  pub unmatched_is : work'.progress.unmatched ≡ work.progress.unmatched

abbrev pub WroteIn : LocalWork → LocalWork → Cell → ℕ → Type 0
WroteIn before after c k = Wrote before.sheet.now before.attached.now before c k after.sheet.now after.attached.now after
