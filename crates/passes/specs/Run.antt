-- A list of calls, each lent the corners and the sheet as the last call left it (document 01, "Lists of passes, for demand 3"). What is left of the
-- label box is a function of the sheet, so a list needs no other state. Definitions only.
use Rattle.std.specs.Prelude.{List, [], ◌∷◌, ℕ}
use Rattle.sheet.specs.Corners.{CornerLists}
use Rattle.labels.specs.Kept.{box_kept}
use Rattle.labels.specs.declared.kept.KeptBox.{KeptBox}
use Rattle.arguments.specs.declared.Pass.{Pass}
use Rattle.arguments.specs.declared.Settings.{Settings}
use Rattle.passes.specs.Outcome.{Outcome, refused, done}
use Rattle.passes.specs.Step.{Rooms, grow_step, fill_step, local_step}
use Rattle.passes.specs.declared.PassStats.{PassStats}

-- the label box that a call is handed: the one that the last call left, or at first the one of the sheet; or any other
pub data Handed : Type 0 where
  as_left : Handed
  other : KeptBox → Handed

abbrev pub handed : List ℕ → Handed → KeptBox
handed sheet as_left = box_kept sheet
handed sheet (other k) = k

-- one call: which pass with its numbers, cell size, axes and band, the shades that it is lent, the box, and the lengths of the other lent buffers
pub record Call : Type 0 where
  pub pass : Pass
  pub settings : Settings
  pub shades : List ℕ
  pub around : Handed
  pub rooms : Rooms

-- an outcome with another answer
abbrev pub renamed : {A B : Type 0} → (A → B) → Outcome A → Outcome B
renamed f (refused r) = refused r
renamed f (done a) = done (record { answer = f a.answer; sheet = a.sheet; attached = a.attached; visited = a.visited })

-- what a call does
abbrev pub step_as : CornerLists → List ℕ → List ℕ → KeptBox → Settings → Rooms → Pass → Outcome PassStats
step_as l shades sheet around set r (Pass.Grow p) = renamed PassStats.Grow (grow_step l shades sheet around set p r)
step_as l shades sheet around set r (Pass.Fill p) = renamed PassStats.Fill (fill_step l shades sheet around set p r)
step_as l shades sheet around set r (Pass.Local p) = renamed PassStats.Local (local_step l shades sheet around set p r)

unfoldable pub step : CornerLists → List ℕ → Call → Outcome PassStats
step l sheet c = step_as l c.shades sheet (handed sheet c.around) c.settings c.rooms c.pass

-- the sheet that a call leaves: a refused one leaves it as it was
abbrev pub sheet_after : List ℕ → Outcome PassStats → List ℕ
sheet_after sheet (refused r) = sheet
sheet_after sheet (done a) = a.sheet

-- the outcomes of a list of calls, in order
unfoldable pub run : CornerLists → List ℕ → List Call → List (Outcome PassStats)
run l sheet [] = []
run l sheet (c ∷ cs) = step l sheet c ∷ run l (sheet_after sheet (step l sheet c)) cs

-- the sheet after a list of calls
unfoldable pub sheet_of : CornerLists → List ℕ → List Call → List ℕ
sheet_of l sheet [] = sheet
sheet_of l sheet (c ∷ cs) = sheet_of l (sheet_after sheet (step l sheet c)) cs
