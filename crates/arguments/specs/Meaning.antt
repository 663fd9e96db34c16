-- When a library call is refused, and with which number, without the tests that find it (01, "Frame and result", the table of refusals: "The
-- library tries 7, 2, 3, 5, 6"). `proofs/Meaning.antt` proves `RefusedExactlyIf`. Definitions only.
use Rattle.std.specs.Prelude.{◌≡◌, true, List, ◌↔◌, ℕ, ◌<◌, ◌≤◌, get_or, Ok, Err, Some}
use Rattle.sizes.specs.Sizes.{place_count, corner_limit}
use Rattle.refusal.specs.declared.Refusal.{Refusal}
use Rattle.sheet.specs.Words.{label_of}
use Rattle.sheet.specs.Corners.{corner_of}
use Rattle.labels.specs.declared.kept.KeptBox.{KeptBox}
use Rattle.arguments.specs.Arguments.{Checked, Lent, corner_count, checked}
use Rattle.arguments.specs.Accepted.{CornerInside, SettingsInside, PassInside, BoxRight, LongEnough, Known, OnTwoPlaces, Accepted}
use Rattle.arguments.specs.declared.Pass.{Pass}
use Rattle.arguments.specs.declared.Settings.{Settings}

-- every number of a call is in its range: those of the corners and their shades, of the settings and of the pass
pub record NumbersInside (l : Lent) (settings : Settings) (pass : Pass) : Type 0 where
  pub corners_inside : (k : ℕ) → k < corner_count l → CornerInside (corner_of l.corners k)
  pub shades_inside : (k : ℕ) → k < corner_count l → get_or l.shades k 0 ≤ 2
  pub settings_inside : SettingsInside settings
  pub pass_inside : PassInside pass

-- and the box that is handed with the sheet is that of the sheet: nothing that 3 is for
pub record NoThree (l : Lent) (settings : Settings) (pass : Pass) : Type 0 where
  pub numbers : NumbersInside l settings pass
  pub box_right : BoxRight l

-- a place of the sheet that names a corner from n on
pub record NamesUnknown (n : ℕ) (sheet : List ℕ) : Type 0 where
  pub place : ℕ
  pub corner : ℕ
  pub below : place < place_count
  pub holds : label_of (get_or sheet place 0) ≡ Some corner
  pub unknown : n ≤ corner

-- What each number means, beside that none of those tried before it does. 1 and 4 speak of a frame's lines, 8 and 9 of its patches: no call is refused
-- so.
abbrev pub RefusedFor : Lent → Settings → Pass → Refusal → Type 0
-- 7, short: some lent buffer is not as long as needed
RefusedFor l settings pass Refusal.BufferTooShort = LongEnough l pass → ⊥
-- 2, overfull: more than 1,024 corners
RefusedFor l settings pass Refusal.OverLimit = LongEnough l pass × (corner_limit < corner_count l)
-- 3, wild: some number is out of its range, or the box differs from the sheet
RefusedFor l settings pass Refusal.OutOfRange = LongEnough l pass × (corner_count l ≤ corner_limit) × (NoThree l settings pass → ⊥)
-- 5, stranger: some place names a corner that is not given
RefusedFor l settings pass Refusal.UnknownCorner =
    LongEnough l pass × (corner_count l ≤ corner_limit) × NoThree l settings pass × NamesUnknown (corner_count l) l.sheet
-- 6, doubled: some corner stands on two places
RefusedFor l settings pass Refusal.Duplicate =
    LongEnough l pass × (corner_count l ≤ corner_limit) × NoThree l settings pass × Known (corner_count l) l.sheet × OnTwoPlaces l.sheet
RefusedFor l settings pass Refusal.Malformed = ⊥
RefusedFor l settings pass Refusal.OffSheet = ⊥
RefusedFor l settings pass Refusal.NoSharedCorner = ⊥
RefusedFor l settings pass Refusal.PatchesClash = ⊥
RefusedFor l settings pass Refusal.NotPermitted = ⊥

-- what each answer of the checks means
abbrev pub Meaning : Lent → Settings → Pass → Checked → Type 0
Meaning l settings pass (Ok tt) = Accepted l settings pass
Meaning l settings pass (Err r) = RefusedFor l settings pass r

-- the checks give an answer exactly if it means what holds of the call
abbrev pub RefusedExactlyIf : Type 0
RefusedExactlyIf = (l : Lent) (settings : Settings) (pass : Pass) (answer : Checked) → checked l settings pass ≡ answer ↔ Meaning l settings pass answer

-- ---- the label box

-- "A library call handed a sheet and a box that differs from it gets 3": a call that gets neither 7, 2 nor 3 for another argument gets 3 exactly
-- if the box differs, whatever 5 and 6 would say
abbrev pub RefusedForItsBox : Type 0
RefusedForItsBox =
    (l : Lent) (settings : Settings) (pass : Pass) → LongEnough l pass → corner_count l ≤ corner_limit → NumbersInside l settings pass
    → checked l settings pass ≡ Err Refusal.OutOfRange ↔ (BoxRight l → ⊥)

-- a call with another box in its place
abbrev pub boxed : Lent → KeptBox → Lent
boxed l k =
    record { corners = l.corners; shades = l.shades; sheet = l.sheet; around = k; queue = l.queue; attached = l.attached }

-- "a mark for an empty one, whose numbers then count for nothing": two boxes with the mark are checked alike
abbrev pub MarkAlone : Type 0
MarkAlone =
    (l : Lent) (settings : Settings) (pass : Pass) (a b : KeptBox) → a.empty ≡ true → b.empty ≡ true
    → checked (boxed l a) settings pass ≡ checked (boxed l b) settings pass
