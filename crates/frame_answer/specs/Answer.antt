-- What is answered to a text (document 01, "Frame and result"): the result of an accepted frame, or `(refused number line)` alone; and the same
-- answer piece by piece. Definitions only.
use Rattle.std.specs.Prelude.{◌≡◌, Bool, true, false, List, [], ◌∷◌, ◌++◌, ℕ, zero, suc, ◌*◌, ◌<◌, ◌≤◌, ltb, length, Float, Result, Ok, Err}
use Rattle.refusal.specs.declared.Refusal.{Refusal}
use Rattle.arguments.specs.Arguments.{unknown_corner, doubled_corner}
use Rattle.passes.specs.Outcome.{Outcome, refused, done}
use Rattle.passes.specs.Run.{run, sheet_of as sheetAfterAll}
use Rattle.passes.specs.declared.PassStats.{PassStats}
use Rattle.role_counts.specs.RoleCounts.{RoledStats}
use Rattle.frame.specs.Frame.{Frame, RoledPass, parts_of, FrameRead, refused_at, accepted, read_frame}
use Rattle.frame.specs.ReadFrame.{sheet_of, Buffers}
use Rattle.frame_laws.specs.Calls.{frame_corners, calls_of}
use Rattle.report_line.specs.Refused.{refused_text}
use Rattle.report_line.specs.Result.{result_text, Piece, result_piece, line_count}
use Rattle.sizes.specs.Sizes.{place_count, corner_limit, pass_limit, outcome_size}
use Rattle.report_line.specs.Sizes.{line_room}
use Rattle.report_words.specs.Outcomes.{outcomes_in, wild_outcome}
use Rattle.line_form.specs.Written.{Wrote}
use Rattle.frame.specs.declared.FrameRefusal.{FrameRefusal}
use Rattle.frame_answer.specs.declared.Recovered.{Recovered}
use Rattle.report.specs.declared.lines.PieceEnd.{PieceEnd}

-- ---- the whole answer

-- what each pass said, and who ran it; no pass of an accepted frame is refused (`frame_laws`: `accepted_runs`)
unfoldable pub outcomes_of : List RoledPass → List (Outcome PassStats) → List RoledStats
outcomes_of [] os = []
outcomes_of (p ∷ ps) [] = []
outcomes_of (p ∷ ps) (refused r ∷ os) = outcomes_of ps os
outcomes_of (p ∷ ps) (done a ∷ os) = record { role = p.role; stats = a.answer } ∷ outcomes_of ps os

-- the passes as run, and the sheet that they leave
unfoldable pub frame_outcomes : Frame → List RoledStats
frame_outcomes f = outcomes_of (parts_of f).passes (run (frame_corners f) (sheet_of f) (calls_of f))

unfoldable pub frame_sheet : Frame → List ℕ
frame_sheet f = sheetAfterAll (frame_corners f) (sheet_of f) (calls_of f)

unfoldable pub answer_of : FrameRead → List ℕ
answer_of (refused_at r line) = refused_text r line
answer_of (accepted f) = result_text (frame_outcomes f) (frame_sheet f)

-- the answer to a text, any bytes at all
unfoldable pub answer_text : List ℕ → List ℕ
answer_text text = answer_of (read_frame text)

-- ---- what is known when the passes have run: the words and the sheet say what the definition says, and the printer refuses neither

pub record Recorded (f : Frame) (corners passes : ℕ) (sheet words : List ℕ) : Type 0 where
  pub corner_count_holds : corners ≡ length (parts_of f).corners
  pub pass_count : passes ≡ length (parts_of f).passes
  pub few_corners : corners ≤ corner_limit
  pub few_passes : passes ≤ pass_limit
  pub words_long : outcome_size * passes ≤ length words
  pub sheet_long : place_count ≤ length sheet
  pub sheet_so : sheet ≡ frame_sheet f
  pub outcomes_so : outcomes_in passes words ≡ frame_outcomes f
  pub tame : (k : ℕ) → k < passes → wild_outcome words k ≡ false
  pub known : unknown_corner corners sheet ≡ false
  pub once : doubled_corner sheet ≡ false

-- what a frame is read into, and what its passes are lent beside that
pub record Lent : Type 0 where
  pub frame : Buffers
  pub queue : List ℕ
  pub attached : List ℕ
  pub words : List ℕ

abbrev pub lent_as : List Float → List Float → List Float → List ℕ → List ℕ → List ℕ → List ℕ → List ℕ → List ℕ → Lent
lent_as xs ys pitches shades sheet passes queue attached words =
    record {
      frame = record { xs = xs; ys = ys; pitches = pitches; shades = shades; sheet = sheet; passes = passes };
      queue = queue;
      attached = attached;
      words = words;
    }

-- the answer to a text, with the buffers before and after: a refused frame changes none of them, and after an accepted one the sheet and the
-- words go with the answer
pub data Recovers (text : List ℕ) (before after : Lent) : Result Recovered FrameRefusal → Type 0 where
  recovers_not : (r : Refusal) (line : ℕ) → read_frame text ≡ refused_at r line → after ≡ before → Recovers text before after (Err (record { refusal = r; line = line }))
  recovers : (f : Frame) (corners passes : ℕ) → read_frame text ≡ accepted f → Recorded f corners passes after.frame.sheet after.words → Recovers text before after (Ok (record { corners = corners; passes = passes }))

-- ---- piece by piece

-- how many lines there are to write, empty ones included
unfoldable pub answer_lines : FrameRead → ℕ
answer_lines (refused_at r line) = 1
answer_lines (accepted f) = line_count (length (frame_outcomes f))

abbrev pub refused_piece : ℕ → List ℕ → Piece
refused_piece zero text = record { text = text; next = 1 }
refused_piece (suc k) text = record { text = []; next = suc k }

-- the piece from line k on, into so much room
unfoldable pub answer_piece : FrameRead → ℕ → ℕ → Piece
answer_piece (refused_at r line) k room = refused_piece k (refused_text r line)
answer_piece (accepted f) k room = result_piece (frame_outcomes f) (frame_sheet f) k room

abbrev pub go_on : Bool → List ℕ → List (List ℕ) → List (List ℕ)
go_on true text rest = text ∷ rest
go_on false text rest = []

-- the pieces from line k on, at most n of them, each into so much room
unfoldable pub pieces_from : FrameRead → ℕ → ℕ → ℕ → List (List ℕ)
pieces_from a room zero k = []
pieces_from a room (suc n) k = go_on (ltb k (answer_lines a)) (answer_piece a k room).text (pieces_from a room n (answer_piece a k room).next)

unfoldable pub joined : List (List ℕ) → List ℕ
joined [] = []
joined (p ∷ ps) = p ++ joined ps

-- all pieces: each has a line at least, so there are no more pieces than lines
unfoldable pub pieces : List ℕ → ℕ → List (List ℕ)
pieces text room = pieces_from (read_frame text) room (answer_lines (read_frame text)) 0

-- the pieces, joined, are the answer
abbrev pub PiecesJoin : Type 0
PiecesJoin = (text : List ℕ) (room : ℕ) → line_room ≤ room → joined (pieces text room) ≡ answer_text text

-- ---- the same from what a run holds: the answer, the words of the outcomes and the sheet

unfoldable pub held_lines : Result Recovered FrameRefusal → ℕ
held_lines (Err e) = 1
held_lines (Ok r) = line_count r.passes

unfoldable pub held_piece : Result Recovered FrameRefusal → List ℕ → List ℕ → ℕ → ℕ → Piece
held_piece (Err e) words sheet k room = refused_piece k (refused_text e.refusal e.line)
held_piece (Ok r) words sheet k room = result_piece (outcomes_in r.passes words) sheet k room

abbrev pub FewPasses : Result Recovered FrameRefusal → Type 0
FewPasses (Err e) = Unit {0}
FewPasses (Ok r) = r.passes ≤ pass_limit

-- what the printer asks of words and sheet
pub record Printable (corners passes : ℕ) (words sheet : List ℕ) : Type 0 where
  pub few_corners : corners ≤ corner_limit
  pub few_passes : passes ≤ pass_limit
  pub words_long : outcome_size * passes ≤ length words
  pub sheet_long : place_count ≤ length sheet
  pub tame : (k : ℕ) → k < passes → wild_outcome words k ≡ false
  pub known : unknown_corner corners sheet ≡ false
  pub once : doubled_corner sheet ≡ false

unfoldable pub CanSay : Result Recovered FrameRefusal → List ℕ → List ℕ → Type 0
CanSay (Err e) words sheet = e.line ≤ 10000000
CanSay (Ok r) words sheet = Printable r.corners r.passes words sheet

-- what is held after a run of a text says the answer to it, piece by piece
pub record Says (text sheet words : List ℕ) (r : Result Recovered FrameRefusal) : Type 0 where
  pub can_say : CanSay r words sheet
  pub lines_so : held_lines r ≡ answer_lines (read_frame text)
  pub piece_so : (k room : ℕ) → held_piece r words sheet k room ≡ answer_piece (read_frame text) k room

-- a piece that was written to the front of a buffer, the rest untouched
pub record WrotePiece (p : Piece) (old new : List ℕ) (r : PieceEnd) : Type 0 where
  pub wrote : Wrote p.text old new r.at
  pub next_so : r.next ≡ p.next

-- it fits into the room, and the next line is a later one
pub record Moves (from room : ℕ) (r : PieceEnd) : Type 0 where
  pub in_room : r.at ≤ room
  pub later : from < r.next
