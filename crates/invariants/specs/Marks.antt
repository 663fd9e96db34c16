-- What each pass does to the marks, cell by cell, and what grow's counts say (01, "Sheet": "No candidate and edge refusals mark a hole", "Only local
-- clears marks, both of the cell it attaches", "The frame starts with no marks"). Definitions only.
use Rattle.std.specs.Prelude.{◌≡◌, Bool, true, cond, ℕ, ◌+◌, ◌<◌, length, get_or, None, Err}
use mathlib.Core.List.{List, [], ◌∷◌, ◌++◌, Memᴰ}
use Rattle.sheet.specs.Cells.{cell_of}
use Rattle.sheet.specs.Words.{bit_of, label_at, hole_at, ambiguous_at}
use Rattle.sheet.specs.declared.Cell.{Cell}
use Rattle.extension_common.specs.declared.NotAttached.{NotAttached}
use Rattle.extension_common.specs.TryCell.{TryCellResult}
use Rattle.arguments.specs.declared.Pass.{Pass}
use Rattle.passes.specs.Outcome.{After, Outcome, refused, done}
use Rattle.passes.specs.Grow.{no_counts}
use Rattle.passes.specs.Run.{Call}
use Rattle.passes.specs.declared.PassStats.{PassStats}
use Rattle.passes.specs.Changes.{is_attached, is_no_candidate, is_ambiguous, is_edge_refusal, SameMarks, NoMarks, MarksSet}
use Rattle.passes.specs.declared.Counts.{Counts}

-- the marks of a cell that stood still stand
pub record MarksStand (first last : List ℕ) (c : Cell) : Type 0 where
  pub hole : hole_at first c ≡ true → hole_at last c ≡ true
  pub ambiguous : ambiguous_at first c ≡ true → ambiguous_at last c ≡ true

-- a cell whose place is not listed
abbrev pub NotIn : List ℕ → Cell → Type 0
NotIn ps c = (p : ℕ) → Memᴰ p ps → cell_of p ≡ c → ⊥

-- ---- grow

-- how many of some findings are of a kind
unfoldable pub how_many : (TryCellResult → Bool) → List TryCellResult → ℕ
how_many f [] = 0
how_many f (r ∷ rs) = bit_of (f r) + how_many f rs

-- the places of some visited cells at which a corner was attached, in order
unfoldable pub attached_among : List ℕ → List TryCellResult → List ℕ
attached_among [] rs = []
attached_among (p ∷ ps) [] = []
attached_among (p ∷ ps) (r ∷ rs) = cond (is_attached r) (p ∷ attached_among ps rs) (attached_among ps rs)

-- the counts are those of what was found
pub record CountsOf (found : List TryCellResult) (n : Counts) : Type 0 where
  pub attached : n.attached ≡ how_many is_attached found
  pub no_candidate : n.rejected_no_candidate ≡ how_many is_no_candidate found
  pub ambiguous : n.rejected_ambiguous ≡ how_many is_ambiguous found
  pub edge : n.rejected_edge ≡ how_many is_edge_refusal found

-- Grow from the first sheet to the last. There is one finding for each visited cell, all of which were unlabelled; a visited cell has the marks
-- that it had and the one that its finding sets, and the marks of every other cell are as they were; so every mark that stood still stands. The new
-- cells are the visited ones at which a corner was found, and the counts are those of the findings.
pub record GrowMarks (first visited made : List ℕ) (counts : Counts) (last : List ℕ) : Type 0 where
  pub found : List TryCellResult
  pub each : length found ≡ length visited
  pub bare : (n : ℕ) → n < length visited → label_at first (cell_of (get_or visited n 0)) ≡ None
  pub marked : (n : ℕ) → n < length visited → MarksSet (get_or found n (Err NotAttached.NoCandidates)) first last (cell_of (get_or visited n 0))
  pub others : (c : Cell) → NotIn visited c → SameMarks first last c
  pub stand : (c : Cell) → MarksStand first last c
  pub attached : attached_among visited found ≡ made
  pub counted : CountsOf found counts

-- ---- fill and local

-- fill changes no mark
abbrev pub FillMarks : List ℕ → List ℕ → Type 0
FillMarks first last = (c : Cell) → SameMarks first last c

-- local: both marks of each new cell are gone, all others are as they were, and no mark is new
pub record LocalMarks (first made last : List ℕ) : Type 0 where
  pub cleared : (p : ℕ) → Memᴰ p made → NoMarks last (cell_of p)
  pub others : (c : Cell) → NotIn made c → SameMarks first last c
  pub none_new : (c : Cell) → MarksStand last first c

-- ---- a call, and a list of calls

-- the four counts that a pass says; fill has none
abbrev pub counts_said : PassStats → Counts
counts_said (PassStats.Grow s) = s.counts
counts_said (PassStats.Fill s) = no_counts
counts_said (PassStats.Local s) = s.counts

-- what a call that ran did to the marks, by its pass
abbrev pub PassMarks : Pass → List ℕ → After PassStats → Type 0
PassMarks (Pass.Grow p) first a = GrowMarks first a.visited a.attached (counts_said a.answer) a.sheet
PassMarks (Pass.Fill p) first a = FillMarks first a.sheet
PassMarks (Pass.Local p) first a = LocalMarks first a.attached a.sheet

-- the cells whose marks a call cleared: the new cells of local
abbrev pub cleared_by : Pass → After PassStats → List ℕ
cleared_by (Pass.Grow p) a = []
cleared_by (Pass.Fill p) a = []
cleared_by (Pass.Local p) a = a.attached

-- all cells whose marks a list of calls cleared
unfoldable pub cleared_in : List Call → List (Outcome PassStats) → List ℕ
cleared_in [] os = []
cleared_in (c ∷ cs) [] = []
cleared_in (c ∷ cs) (refused r ∷ os) = cleared_in cs os
cleared_in (c ∷ cs) (done a ∷ os) = cleared_by c.pass a ++ cleared_in cs os

-- all cells that a list of calls visited: those of its grows
unfoldable pub visited_in : List (Outcome PassStats) → List ℕ
visited_in [] = []
visited_in (refused r ∷ os) = visited_in os
visited_in (done a ∷ os) = a.visited ++ visited_in os

-- From the first sheet to the last by a list of calls. Only local clears marks: every other mark that stood still stands, all of them where no local
-- ran. Only grow sets marks: a mark that is new stands at a cell that was visited; so from a sheet with no marks, as a frame's is, every mark does.
-- The marks that local cleared are gone for good.
pub record MarksOver (first : List ℕ) (cs : List Call) (os : List (Outcome PassStats)) (last : List ℕ) : Type 0 where
  pub stand : (c : Cell) → NotIn (cleared_in cs os) c → MarksStand first last c
  pub new_visited : (c : Cell) → NotIn (visited_in os) c → MarksStand last first c
  pub from_none : ((c : Cell) → NoMarks first c) → (c : Cell) → NotIn (visited_in os) c → NoMarks last c
  pub cleared : (p : ℕ) → Memᴰ p (cleared_in cs os) → NoMarks last (cell_of p)
