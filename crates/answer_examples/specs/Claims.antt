-- What is claimed of the two texts: they meet all that demand 3 asks of two frames, and so demand 3 speaks of them; and of a list of calls from
-- them, two of which are refused. `proofs/Pair.antt` proves `Met` and `Agreed`. Definitions only.
use Rattle.std.specs.Prelude.{◌≡◌, false, List, [], ◌∷◌, map, ℕ, ◌<◌, pos, get_or, Option, Some, Float}
use Rattle.std.specs.Float.{binary32}
use Rattle.std.specs.Float.Ieee.{of_bits}
use Rattle.refusal.specs.Refusal.{number_of}
use Rattle.labels.specs.declared.kept.KeptBox.{KeptBox}
use Rattle.passes.specs.Outcome.{Outcome, refused, done}
use Rattle.passes.specs.Run.{other, Call, run}
use Rattle.passes.specs.declared.PassStats.{PassStats}
use Rattle.invariants.specs.Boxes.{handed_box}
use Rattle.agreement.specs.Agreement.{Agree, FactorsAbove}
use Rattle.frame_line.specs.Lines.{PassLine, grow, fill, local, bare_grow}
use Rattle.frame.specs.Frame.{Frame, read_frame, accepted}
use Rattle.frame.specs.ReadFrame.{sheet_of}
use Rattle.frame_laws.specs.Calls.{frame_corners, call_of, calls_of}
use Rattle.frame_agreement.specs.Reordering.{corner_line, SameButOrder, RunAlike}
use Rattle.frame_answer.specs.Answer.{answer_text}
use Rattle.result_agreement.specs.Alike.{ResultsAlike}
use Rattle.answer_examples.specs.Pair.{first_text, second_text, local_line, first_frame, second_frame, numbers_in_second, first_result, second_result}

-- ---- a list of calls

-- its depth is out of range, so the call is refused, and nothing is asked of its factor, which is 1
abbrev pub refused_line : PassLine
refused_line = local 0x3eb3_3333 0x3f80_0000 (pos 2) 0x3e80_0000 (pos 5)

-- the numbers of bare grow, and 0.35 1.5 1
abbrev pub grow_line : PassLine
grow_line = grow bare_grow.search bare_grow.factor bare_grow.boundary

abbrev pub fill_line : PassLine
fill_line = fill 0x3eb3_3333 0x3fc0_0000 (pos 1)

-- a label box that no sheet has, since its i is off the sheet: a call that is handed it is refused
abbrev pub no_box : KeptBox
no_box = record { empty = false; bounds = record { low_i = pos 64; high_i = pos 64; low_j = pos 0; high_j = pos 0 } }

-- the pass lines as calls from a frame, each handed the box that the last call left; and between them a grow that is handed the other box
abbrev pub calls_from : Frame → List Call
calls_from f =
    call_of f local_line
    ∷ call_of f refused_line
    ∷ handed_box (other no_box) (call_of f grow_line)
    ∷ call_of f grow_line
    ∷ call_of f fill_line
    ∷ []

abbrev pub calls : List Call
calls = calls_from first_frame

-- what is told of a call: the number of its refusal, or how many corners it attached, of local with the largest residual recorded
pub data Told : Type 0 where
  was_refused : ℕ → Told
  grow_attached fill_added : ℕ → Told
  local_attached : ℕ → Option Float → Told

abbrev pub told_by : PassStats → Told
told_by (PassStats.Grow s) = grow_attached s.counts.attached
told_by (PassStats.Fill s) = fill_added s.added
told_by (PassStats.Local s) = local_attached s.counts.attached s.residual

abbrev pub told_of : Outcome PassStats → Told
told_of (refused r) = was_refused (number_of r)
told_of (done a) = told_by a.answer

-- ---- the claims

-- Both texts are accepted; the frames differ only in the order of their corner lines, paired as listed, and two lines are equal. Each of the frames'
-- passes has a factor above 1. Of the list of calls, local attaches a corner by a fit whose residual is recorded, the next two calls are refused,
-- and grow and fill attach a corner each; those that run have a factor above 1.
pub record Met : Type 0 where
  pub first_read : read_frame first_text ≡ accepted first_frame
  pub second_read : read_frame second_text ≡ accepted second_frame
  pub same : SameButOrder first_frame second_frame
  pub pairing : (k : ℕ) → k < 10 → same.pairs.to k ≡ get_or numbers_in_second k 0
  pub equal_lines : corner_line first_frame 7 ≡ corner_line first_frame 6
  pub factors : FactorsAbove (calls_of first_frame) (run (frame_corners first_frame) (sheet_of first_frame) (calls_of first_frame))
  pub outcomes : map told_of (run (frame_corners first_frame) (sheet_of first_frame) calls)
      ≡ local_attached 1 (Some (of_bits binary32 0x3635_04f3)) ∷ was_refused 3 ∷ was_refused 3 ∷ grow_attached 1 ∷ fill_added 1 ∷ []
  pub list_factors : FactorsAbove calls (run (frame_corners first_frame) (sheet_of first_frame) calls)

-- So demand 3 holds of them: the runs of both frames are alike, those of the list of calls agree, and the answers differ only in the corner numbers of
-- their cell lines. The second answer is had from the first, by demand 3.
pub record Agreed (m : Met) : Type 0 where
  pub runs : RunAlike first_frame second_frame m.same
  pub list_agrees :
      Agree runs.reordered.corners.pairs (sheet_of first_frame) (sheet_of second_frame) (run (frame_corners first_frame) (sheet_of first_frame) calls)
      (run (frame_corners second_frame) (sheet_of second_frame) (calls_from second_frame))
  pub results : ResultsAlike first_text second_text first_frame second_frame m.same
  pub first_answer : answer_text first_text ≡ first_result
  pub second_answer : answer_text second_text ≡ second_result
