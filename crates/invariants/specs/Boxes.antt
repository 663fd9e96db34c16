-- The label box over every list of calls, refused ones among them (document 02, 5/14: "Reading labels, joining and attaching must each keep them
-- equal to what a search would find. A library call handed a sheet and a box that differs from it gets 3"). `proofs/Boxes.antt` proves the seven
-- claims `BoxesKept`, `NoOtherState`, `GetsThree`, `GoesOn`, `AsLeftPasses`, `RightAlike` and `MarkAlone`. Definitions only.
use Rattle.std.specs.Prelude.{◌≡◌, true, List, [], ◌∷◌, ◌++◌, ◌↔◌, ℕ, ◌≤◌, length}
use mathlib.Core.List.{foldl}
use Rattle.sizes.specs.Sizes.{corner_limit}
use Rattle.refusal.specs.declared.Refusal.{Refusal}
use Rattle.sheet.specs.Cells.{cell_of}
use Rattle.sheet.specs.Corners.{CornerLists}
use Rattle.labels.specs.Box.{widened, box_of}
use Rattle.labels.specs.Kept.{around_of, box_kept}
use Rattle.labels.specs.declared.kept.KeptBox.{KeptBox}
use Rattle.arguments.specs.Accepted.{BoxRight, LongEnough}
use Rattle.arguments.specs.Meaning.{NumbersInside}
use Rattle.passes.specs.Outcome.{After, Outcome, refused, done}
use Rattle.passes.specs.Step.{box_left}
use Rattle.passes.specs.Run.{Handed, as_left, other, Call, step, sheet_after, run, sheet_of}
use Rattle.passes.specs.declared.PassStats.{PassStats}
use Rattle.invariants.specs.Calls.{lent_call}

-- a call that is handed another box
abbrev pub handed_box : Handed → Call → Call
handed_box h c = record { pass = c.pass; settings = c.settings; shades = c.shades; around = h; rooms = c.rooms }

-- ---- "attaching must .. keep them equal to what a search would find"

-- A call that ran, from a sheet: the box that it answers is what a search of the sheet that it leaves finds; and this is the box of the sheet that it
-- was lent, widened by each cell of its attached list.
pub record BoxFollows (sheet : List ℕ) (a : After PassStats) : Type 0 where
  pub found : around_of (box_left a) ≡ box_of a.sheet
  pub widened_by_each : box_of a.sheet ≡ foldl (λ box p. widened box (cell_of p)) (box_of sheet) a.attached

-- the outcomes of a list of calls, from a sheet on
abbrev pub BoxesFollow : List ℕ → List (Outcome PassStats) → Type 0
BoxesFollow sheet [] = Unit {0}
BoxesFollow sheet (refused r ∷ os) = BoxesFollow sheet os
BoxesFollow sheet (done a ∷ os) = BoxFollows sheet a × BoxesFollow a.sheet os

-- so it is after every accepted call of any list
abbrev pub BoxesKept : Type 0
BoxesKept = (l : CornerLists) (sheet : List ℕ) (cs : List Call) → BoxesFollow sheet (run l sheet cs)

-- ---- "keep these four numbers beside the sheet"

-- the box beside the sheet after a call: the one that is answered; a refused call leaves it as it was
abbrev pub beside_after : KeptBox → Outcome PassStats → KeptBox
beside_after k (refused r) = k
beside_after k (done a) = box_left a

-- the box that a call is handed: the one beside the sheet, or any other
abbrev pub handed_beside : KeptBox → Handed → KeptBox
handed_beside k as_left = k
handed_beside k (other b) = b

-- the outcomes of a list of calls, with a box that is kept beside the sheet
unfoldable pub run_beside : CornerLists → List ℕ → KeptBox → List Call → List (Outcome PassStats)
run_beside l sheet k [] = []
run_beside l sheet k (c ∷ cs) =
    let o = step l sheet (handed_box (other (handed_beside k c.around)) c) in
    o ∷ run_beside l (sheet_after sheet o) (beside_after k o) cs

-- they are those of the list that keeps the sheet alone
abbrev pub NoOtherState : Type 0
NoOtherState = (l : CornerLists) (sheet : List ℕ) (cs : List Call) → run_beside l sheet (box_kept sheet) cs ≡ run l sheet cs

-- ---- "A library call handed a sheet and a box that differs from it gets 3"

-- a call on a sheet that gets neither 7, 2 nor 3 for another argument
pub record OthersFine (l : CornerLists) (sheet : List ℕ) (c : Call) : Type 0 where
  pub long : LongEnough (lent_call l sheet c) c.pass
  pub few : length l.xs ≤ corner_limit
  pub numbers : NumbersInside (lent_call l sheet c) c.settings c.pass

-- it gets 3 exactly if the box that it is handed differs from the sheet, whatever 5 and 6 would say
abbrev pub GetsThree : Type 0
GetsThree =
    (l : CornerLists) (sheet : List ℕ) (c : Call) → OthersFine l sheet c
    → step l sheet c ≡ refused Refusal.OutOfRange ↔ (BoxRight (lent_call l sheet c) → ⊥)

-- and leaves the sheet: behind it a list goes on as if it had not been
abbrev pub GoesOn : Type 0
GoesOn =
    (l : CornerLists) (sheet : List ℕ) (cs : List Call) (c : Call) (ds : List Call)
    → OthersFine l (sheet_of l sheet cs) c → (BoxRight (lent_call l (sheet_of l sheet cs) c) → ⊥)
    → run l sheet (cs ++ (c ∷ ds)) ≡ run l sheet cs ++ (refused Refusal.OutOfRange ∷ run l (sheet_of l sheet cs) ds)

-- a call that is handed the box as the last call left it never gets 3 for it
abbrev pub AsLeftPasses : Type 0
AsLeftPasses =
    (l : CornerLists) (sheet : List ℕ) (c : Call) → OthersFine l sheet c → c.around ≡ as_left → step l sheet c ≡ refused Refusal.OutOfRange → ⊥

-- and with any other box that says what a search of the sheet finds it does the same
abbrev pub RightAlike : Type 0
RightAlike =
    (l : CornerLists) (sheet : List ℕ) (c : Call) (k : KeptBox) → around_of k ≡ box_of sheet
    → step l sheet (handed_box (other k) c) ≡ step l sheet (handed_box as_left c)

-- ---- "a mark for an empty one, whose numbers then count for nothing"

-- two boxes with the mark have the same outcome, whatever their numbers
abbrev pub MarkAlone : Type 0
MarkAlone =
    (l : CornerLists) (sheet : List ℕ) (c : Call) (a b : KeptBox) → a.empty ≡ true → b.empty ≡ true
    → step l sheet (handed_box (other a) c) ≡ step l sheet (handed_box (other b) c)
