-- One library call on the corners and a sheet, with its label box as it is kept: refused, or what its pass does (document 01, "Lists of passes, for
-- demand 3"; document 02, 5/14: the box). Definitions only.
use Rattle.std.specs.Prelude.{List, ℕ, Ok, Err}
use Rattle.sheet.specs.Corners.{CornerLists}
use Rattle.arguments.specs.Shades.{corners_of}
use Rattle.labels.specs.Kept.{box_kept}
use Rattle.labels.specs.declared.kept.KeptBox.{KeptBox}
use Rattle.arguments.specs.Arguments.{Checked, Lent, checked}
use Rattle.arguments.specs.declared.Pass.{Pass}
use Rattle.arguments.specs.declared.Settings.{Settings}
use Rattle.arguments.specs.declared.GrowParams.{GrowParams}
use Rattle.arguments.specs.declared.FillParams.{FillParams}
use Rattle.arguments.specs.declared.LocalExtensionParams.{LocalExtensionParams}
use Rattle.arguments.specs.Front.{over}
use Rattle.passes.specs.Outcome.{After, Outcome, refused, done, Answer}
use Rattle.passes.specs.Grow.{grow_after}
use Rattle.passes.specs.Fill.{fill_after}
use Rattle.passes.specs.Local.{local_after}
use Rattle.passes.specs.declared.GrowStats.{GrowStats}
use Rattle.passes.specs.declared.FillStats.{FillStats}
use Rattle.passes.specs.declared.LocalStats.{LocalStats}

-- the lengths of the other lent buffers; fill and local are lent no queue
pub record Rooms : Type 0 where
  pub queue : ℕ
  pub attached : ℕ

abbrev pub rooms : ℕ → ℕ → Rooms
rooms queue attached = record { queue = queue; attached = attached }

abbrev pub lent_of : CornerLists → List ℕ → List ℕ → KeptBox → Rooms → Lent
lent_of l shades sheet around r =
    record { corners = l; shades = shades; sheet = sheet; around = around; queue = r.queue; attached = r.attached }

-- a refusal, or the pass
abbrev pub unless : {A : Type 0} → Checked → After A → Outcome A
unless (Ok tt) a = done a
unless (Err r) a = refused r

-- ---- each pass: the corners, their shades, the sheet, its box, and the rest

unfoldable pub grow_step : CornerLists → List ℕ → List ℕ → KeptBox → Settings → GrowParams → Rooms → Outcome GrowStats
grow_step l shades sheet around set p r =
    unless (checked (lent_of l shades sheet around r) set (Pass.Grow p)) (grow_after (corners_of l shades) set p sheet)

unfoldable pub fill_step : CornerLists → List ℕ → List ℕ → KeptBox → Settings → FillParams → Rooms → Outcome FillStats
fill_step l shades sheet around set p r =
    unless (checked (lent_of l shades sheet around r) set (Pass.Fill p)) (fill_after (corners_of l shades) set p sheet)

unfoldable pub local_step : CornerLists → List ℕ → List ℕ → KeptBox → Settings → LocalExtensionParams → Rooms → Outcome LocalStats
local_step l shades sheet around set p r =
    unless (checked (lent_of l shades sheet around r) set (Pass.Local p)) (local_after (corners_of l shades) set p sheet)

-- ---- what a call answers, and what it leaves in the buffers that it is lent: all of it untouched where it is refused

-- "attaching must .. keep them equal to what a search would find": the box that is answered is that of the sheet that is left
abbrev pub box_left : {A : Type 0} → After A → KeptBox
box_left a = box_kept a.sheet

pub record GrowOut : Type 0 where
  pub answer : Answer (GrowStats × KeptBox)
  pub sheet : List ℕ
  pub queue : List ℕ
  pub attached : List ℕ

abbrev pub grow_out : Answer (GrowStats × KeptBox) → List ℕ → List ℕ → List ℕ → GrowOut
grow_out r s q a = record { answer = r; sheet = s; queue = q; attached = a }

abbrev pub grow_leaves : Outcome GrowStats → List ℕ → List ℕ → List ℕ → GrowOut
grow_leaves (refused r) sheet queue attached = grow_out (Err r) sheet queue attached
grow_leaves (done a) sheet queue attached = grow_out (Ok (a.answer, box_left a)) a.sheet (over a.visited queue) (over a.attached attached)

pub record FillOut : Type 0 where
  pub answer : Answer (FillStats × KeptBox)
  pub sheet : List ℕ
  pub attached : List ℕ

abbrev pub fill_out : Answer (FillStats × KeptBox) → List ℕ → List ℕ → FillOut
fill_out r s a = record { answer = r; sheet = s; attached = a }

abbrev pub fill_leaves : Outcome FillStats → List ℕ → List ℕ → FillOut
fill_leaves (refused r) sheet attached = fill_out (Err r) sheet attached
fill_leaves (done a) sheet attached = fill_out (Ok (a.answer, box_left a)) a.sheet (over a.attached attached)

pub record LocalOut : Type 0 where
  pub answer : Answer (LocalStats × KeptBox)
  pub sheet : List ℕ
  pub attached : List ℕ

abbrev pub local_out : Answer (LocalStats × KeptBox) → List ℕ → List ℕ → LocalOut
local_out r s a = record { answer = r; sheet = s; attached = a }

abbrev pub local_leaves : Outcome LocalStats → List ℕ → List ℕ → LocalOut
local_leaves (refused r) sheet attached = local_out (Err r) sheet attached
local_leaves (done a) sheet attached = local_out (Ok (a.answer, box_left a)) a.sheet (over a.attached attached)
