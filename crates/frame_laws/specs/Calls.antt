-- What an accepted frame starts (document 01, "Lists of passes, for demand 3"): "It starts from an accepted frame's corners and the sheet of
-- its given labels, those of the label lines"; and "a frame's passes are one such list". Document 02, 3/14: "passes run on the union, which then is the
-- given labels". Definitions only.
use Rattle.std.specs.Prelude.{◌≡◌, true, false, ℕ, ◌*◌, Some}
use mathlib.Core.List.{List, [], ◌∷◌, Memᴰ, map}
use Rattle.sheet.specs.Corners.{CornerLists}
use Rattle.sheet.specs.Words.{label_at, hole_at, ambiguous_at}
use Rattle.sheet.specs.declared.Cell.{Cell}
use Rattle.sheet.specs.declared.Offset.{Offset}
use Rattle.passes.specs.Outcome.{Outcome, refused, done}
use Rattle.passes.specs.Step.{Rooms}
use Rattle.passes.specs.Run.{as_left, Call, run, sheet_of as sheetLeft}
use Rattle.passes.specs.declared.PassStats.{PassStats}
use Rattle.arguments.specs.Shades.{corners_of}
use Rattle.invariants.specs.Calls.{Standing, Invariant, CallInside, Accepts}
use Rattle.invariants.specs.Unshaded.{Unshaded, CallsUnshaded}
use Rattle.frame_line.specs.Lines.{PassLine}
use Rattle.sizes.specs.Sizes.{corner_limit}
use Rattle.frame.specs.Frame.{Frame, parts_of, first_set, second_set, given_of, read_frame, accepted}
use Rattle.join.specs.Rule.{Placed, Shared, Shift, UnionBy, All}
use Rattle.frame.specs.ReadFrame.{xs_of, ys_of, pitches_of, shades_of, sheet_of, settings_of, full_of, pass_of}
use Rattle.frame_laws.specs.Shades.{GivenShades}

-- the corners of a frame, as each call is lent them
abbrev pub frame_corners : Frame → CornerLists
frame_corners f = record { xs = xs_of f; ys = ys_of f; pitches = pitches_of f }

-- ---- the sheet of the given labels

-- two sets joined: a corner is in both, and by a shift onto the sheet, the only one, "every shared corner has one cell and every cell one corner"; the
-- union has each label of the first set at its cell, each of the second at its moved cell, nothing else, each corner once and each cell once
pub record JoinedSets (first second u : List Placed) : Type 0 where
  pub shared : Shared first second
  pub shift : Offset
  pub onto : Shift first second shift
  pub union : UnionBy first second shift u

-- each given label's cell holds its corner, no other cell holds one, and "The frame starts with no marks"; the given labels are those of the label lines,
-- or, where the patch line stands, the union of both sets
pub record GivenLabels (f : Frame) : Type 0 where
  pub each : (l : Placed) → Memᴰ l (given_of (parts_of f)) → label_at (sheet_of f) l.cell ≡ Some l.corner
  pub only : (c : Cell) (k : ℕ) → label_at (sheet_of f) c ≡ Some k → Memᴰ (record { corner = k; cell = c }) (given_of (parts_of f))
  pub no_hole : (c : Cell) → hole_at (sheet_of f) c ≡ false
  pub no_ambiguous : (c : Cell) → ambiguous_at (sheet_of f) c ≡ false
  pub one_set : (parts_of f).patched ≡ false → given_of (parts_of f) ≡ first_set (parts_of f)
  pub both_sets_holds : (parts_of f).patched ≡ true → JoinedSets (first_set (parts_of f)) (second_set (parts_of f)) (given_of (parts_of f))

-- ---- a frame's passes as calls

-- "4 queue places a corner, one attached place a corner", for as many corners as a frame may have
abbrev pub frame_rooms : Rooms
frame_rooms = record { queue = 4 * corner_limit; attached = corner_limit }

-- the call of a pass line: its numbers, those of a bare one included, the frame's cell size, axes, band and shades, and the label box that the last
-- call left, which is at first the one that the reader answers. Who runs it is not among what a call is lent
abbrev pub call_of : Frame → PassLine → Call
call_of f p = record { pass = pass_of (full_of p); settings = settings_of f; shades = shades_of f; around = as_left; rooms = frame_rooms }

unfoldable pub calls_of : Frame → List Call
calls_of f = map (λ q. call_of f q.pass) (parts_of f).passes

-- ---- the claim

-- outcomes none of which is a refusal
abbrev pub NoneRefused : List (Outcome PassStats) → Type 0
NoneRefused [] = Unit {0}
NoneRefused (refused r ∷ os) = ⊥
NoneRefused (done a ∷ os) = NoneRefused os

-- The sheet is that of the given labels, and each corner has the shade that its line gives. The corners and the sheet belong together, each
-- corner at one cell, so every list of calls from there has the invariants, whatever the factors. Each pass of the frame has its numbers in range
-- and buffers long enough, so it is refused after no list of calls, and none is in the frame's own run.
pub record Starts (f : Frame) : Type 0 where
  pub given : GivenLabels f
  pub shades : GivenShades f
  pub standing : Standing (frame_corners f) (sheet_of f)
  pub invariant : (calls : List Call) → Invariant (frame_corners f) (sheet_of f) calls
  pub fit : All (CallInside (frame_corners f)) (calls_of f)
  pub accepts : (calls : List Call) → All (Accepts (frame_corners f) (sheetLeft (frame_corners f) (sheet_of f) calls)) (calls_of f)
  pub runs : NoneRefused (run (frame_corners f) (sheet_of f) (calls_of f))

abbrev pub AcceptedRuns : Type 0
AcceptedRuns = (text : List ℕ) (f : Frame) → read_frame text ≡ accepted f → Starts f

-- ---- without shade lines

-- "If any stands": a frame without shade lines is as before document 02. Its calls are lent its corners with no shade at all (`lent`), so every cell is
-- tried as document 01 says, in all three passes, and local passes over none and says that there is no shade (`passes`).
pub record FrameUnshaded (f : Frame) : Type 0 where
  pub lent : CallsUnshaded (frame_corners f) (shades_of f)
  pub passes : Unshaded (corners_of (frame_corners f) (shades_of f))

abbrev pub FrameAsBefore : Type 0
FrameAsBefore = (f : Frame) → (parts_of f).shades ≡ [] → FrameUnshaded f
