-- What stays true over every list of calls, refused ones among them, whatever their factors and shades (document 01, "Lists of passes, for demand 3";
-- document 02, 1/14). Definitions only.
use Rattle.std.specs.Prelude.{◌≡◌, true, List, [], ◌∷◌, ◌++◌, ℕ, ◌<◌, ◌≤◌, length, get_or, Some}
use Rattle.sizes.specs.Sizes.{corner_limit}
use Rattle.refusal.specs.declared.Refusal.{Refusal}
use Rattle.sheet.specs.Cells.{cell_of}
use Rattle.sheet.specs.Words.{label_at}
use Rattle.sheet.specs.Shades.{kind, kind_at}
use Rattle.sheet.specs.Corners.{CornerLists, corner_of, AllListed, Given}
use Rattle.labels.specs.Used.{OneCell}
use Rattle.arguments.specs.Shades.{shade_of, any_shade, corners_of}
use Rattle.arguments.specs.Arguments.{Checked, Lent, queue_needed, checked}
use Rattle.arguments.specs.Accepted.{CornerInside, SettingsInside, PassInside}
use Rattle.arguments.specs.declared.Pass.{Pass}
use Rattle.arguments.specs.declared.Settings.{Settings}
use Rattle.passes.specs.Outcome.{After, Outcome, refused, done}
use Rattle.passes.specs.Grow.{tolerances_of, grow_after}
use Rattle.passes.specs.Fill.{fill_after}
use Rattle.passes.specs.Local.{local_after}
use Rattle.passes.specs.Step.{lent_of}
use Rattle.passes.specs.Run.{as_left, handed, Call, step, run, sheet_of}
use Rattle.passes.specs.declared.PassStats.{PassStats}
use Rattle.passes.specs.History.{History}
use Rattle.invariants.specs.Kept.{Kept, Extended, AttachedAt, AttachedInTurn}
use Rattle.invariants.specs.Marks.{PassMarks, MarksOver}

-- the corners and a sheet that belong together, each corner at one cell: what an accepted frame starts from, and what every call leaves. Nothing is
-- asked of the kind of a labelled corner: "given labels are not tested" (document 02, 1/14).
pub record Standing (l : CornerLists) (sheet : List ℕ) : Type 0 where
  pub listed : AllListed l
  pub given : Given (length l.xs) sheet
  pub one_cell : OneCell sheet

-- what a call on a sheet is lent
abbrev pub lent_call : CornerLists → List ℕ → Call → Lent
lent_call l sheet c = lent_of l c.shades sheet (handed sheet c.around) c.rooms

abbrev pub checked_call : CornerLists → List ℕ → Call → Checked
checked_call l sheet c = checked (lent_call l sheet c) c.settings c.pass

-- what a call that is not refused does
abbrev pub answering : {A B : Type 0} → (A → B) → After A → After B
answering f a = record { answer = f a.answer; sheet = a.sheet; attached = a.attached; visited = a.visited }

abbrev pub after_pass : CornerLists → List ℕ → List ℕ → Settings → Pass → After PassStats
after_pass l shades sheet set (Pass.Grow p) = answering PassStats.Grow (grow_after (corners_of l shades) set p sheet)
after_pass l shades sheet set (Pass.Fill p) = answering PassStats.Fill (fill_after (corners_of l shades) set p sheet)
after_pass l shades sheet set (Pass.Local p) = answering PassStats.Local (local_after (corners_of l shades) set p sheet)

abbrev pub after_call : CornerLists → List ℕ → Call → After PassStats
after_call l sheet c = after_pass l c.shades sheet c.settings c.pass

-- how many corners a pass says that it attached
abbrev pub attached_count : PassStats → ℕ
attached_count (PassStats.Grow s) = s.counts.attached
attached_count (PassStats.Fill s) = s.added
attached_count (PassStats.Local s) = s.counts.attached

-- ---- a list of calls

-- "If any stands, cell (i, j) takes only kind 0 where i+j is even and kind 1 where odd, and a corner without a shade is never a candidate" (document 02,
-- 1/14): the n-th corner that a call attached, which its cell holds after the call. If a shade is lent to the call, that corner has one, and it is the
-- kind of its cell.
pub record OfItsKind (l : CornerLists) (c : Call) (a : After PassStats) (n : ℕ) : Type 0 where
  pub corner : ℕ
  pub given : corner < length l.xs
  pub holds : label_at a.sheet (cell_of (get_or a.attached n 0)) ≡ Some corner
  pub of_kind : any_shade c.shades (length l.xs) ≡ true → shade_of (get_or c.shades corner 0) ≡ kind (kind_at (cell_of (get_or a.attached n 0)))

-- A call that ran, from a sheet: what happened to the labels, with the call's shades, cell size and band; so each new corner had an accepted edge to a
-- labelled cardinal neighbour, or no such neighbour, when attached, and the labelled cells after the call are those before it and those of its
-- attached list, "whose length is attached (fill: added)"; each new corner is of its cell's kind; and what its pass did to the marks.
pub record Ran (l : CornerLists) (c : Call) (sheet : List ℕ) (a : After PassStats) : Type 0 where
  pub history : History (corners_of l c.shades) (tolerances_of c.settings) sheet a.attached a.sheet
  pub extended : Extended (length l.xs) sheet a.attached a.sheet
  pub each : (n : ℕ) → n < length a.attached
      → AttachedAt (corners_of l c.shades) (tolerances_of c.settings) sheet a.attached a.sheet n
  pub kinds : (n : ℕ) → n < length a.attached → OfItsKind l c a n
  pub counted : attached_count a.answer ≡ length a.attached
  pub marks : PassMarks c.pass sheet a

-- the calls of a list with their outcomes, from a sheet on: a refused call leaves the sheet as it was; after each that ran, the sheet and the
-- corners still belong together, and the given labels are kept
pub data Goes (l : CornerLists) (given : List ℕ) : List ℕ → List Call → List (Outcome PassStats) → Type 0 where
  ended : {sheet : List ℕ} → Goes l given sheet [] []
  refuses : {sheet : List ℕ} {cs : List Call} {os : List (Outcome PassStats)} (c : Call) (r : Refusal) → Goes l given sheet cs os → Goes l given sheet (c ∷ cs) (refused r ∷ os)
  runs : {sheet : List ℕ} {cs : List Call} {os : List (Outcome PassStats)} (c : Call) (a : After PassStats) → Ran l c sheet a → Standing l a.sheet → Kept given a.sheet
      → Goes l given a.sheet cs os → Goes l given sheet (c ∷ cs) (done a ∷ os)

-- all new cells of a list of calls, in order
unfoldable pub attached_in : List (Outcome PassStats) → List ℕ
attached_in [] = []
attached_in (refused r ∷ os) = attached_in os
attached_in (done a ∷ os) = a.attached ++ attached_in os

-- "In every such run, whatever the factors, given labels are kept, no corner holds two cells, and each new corner had an accepted edge to a
-- labelled cardinal neighbour, or no such neighbour, when attached": after each call, at the end, and of each new corner; each corner attached by a
-- call to which a shade is lent has its cell's kind; and over the whole list only grow sets marks and only local clears them
pub record Invariant (l : CornerLists) (given : List ℕ) (cs : List Call) : Type 0 where
  pub each_call : Goes l given given cs (run l given cs)
  pub whole : Extended (length l.xs) given (attached_in (run l given cs)) (sheet_of l given cs)
  pub each_corner : (n : ℕ) → n < length (attached_in (run l given cs)) → AttachedInTurn l given (attached_in (run l given cs)) (sheet_of l given cs) n
  pub marks : MarksOver given cs (run l given cs) (sheet_of l given cs)

-- for any list of calls from corners and a sheet that belong together
abbrev pub Invariants : Type 0
Invariants = (l : CornerLists) (given : List ℕ) → Standing l given → (cs : List Call) → Invariant l given cs

-- ---- no refusal in mid-list

-- a call whose numbers are in range, whose buffers are long enough, and which is handed the label box as the last call left it
pub record CallInside (l : CornerLists) (c : Call) : Type 0 where
  pub few : length l.xs ≤ corner_limit
  pub queue_long : queue_needed c.pass (length l.xs) ≤ c.rooms.queue
  pub attached_long : length l.xs ≤ c.rooms.attached
  pub shades_long : length l.xs ≤ length c.shades
  pub corners_inside : (k : ℕ) → k < length l.xs → CornerInside (corner_of l k)
  pub shades_inside : (k : ℕ) → k < length l.xs → get_or c.shades k 0 ≤ 2
  pub settings_inside : SettingsInside c.settings
  pub pass_inside : PassInside c.pass
  pub box_as_left : c.around ≡ as_left

-- a call on a sheet is not refused
pub record Accepts (l : CornerLists) (sheet : List ℕ) (c : Call) : Type 0 where
  pub done_so : step l sheet c ≡ done (after_call l sheet c)

-- after any list of calls, from corners and a sheet that belong together, such a call is not refused
abbrev pub NeverRefused : Type 0
NeverRefused = (l : CornerLists) (sheet : List ℕ) → Standing l sheet → (cs : List Call) (c : Call) → CallInside l c → Accepts l (sheet_of l sheet cs) c

-- ---- "given labels are not tested" (document 02, 1/14)

-- a call that is lent other shades
abbrev pub lent_shades : List ℕ → Call → Call
lent_shades shades c = record { pass = c.pass; settings = c.settings; shades = shades; around = c.around; rooms = c.rooms }

-- shades of all corners, each none or one of the two kinds
pub record ShadesInside (l : CornerLists) (shades : List ℕ) : Type 0 where
  pub long : length l.xs ≤ length shades
  pub inside : (k : ℕ) → k < length l.xs → get_or shades k 0 ≤ 2

-- a call is refused alike whatever the kinds of the corners, labelled ones among them
abbrev pub KindsNotTested : Type 0
KindsNotTested = (l : CornerLists) (sheet : List ℕ) (c : Call) (shades : List ℕ) → ShadesInside l c.shades → ShadesInside l shades
    → checked_call l sheet (lent_shades shades c) ≡ checked_call l sheet c
