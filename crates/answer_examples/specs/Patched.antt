-- Two texts with two patches (document 02, 3/14) that differ only in the order of their corner lines, the labels of both sets renumbered to match; their
-- frames, the answers to both, and what is claimed of them. Four corners in a row: the first set has the first two, the second set the second and the
-- third, its cells 5 lower; a bare grow attaches the last. `proofs/Patched.antt` proves `PatchedMet` and `PatchedAgreed`. Definitions only.
use Rattle.std.specs.Prelude.{◌≡◌, List, [], ◌∷◌, ◌++◌, ℕ, ◌<◌, ℤ, pos, negsuc, get_or}
use Rattle.join.specs.Rule.{Placed}
use Rattle.passes.specs.Run.{run}
use Rattle.agreement.specs.Agreement.{FactorsAbove}
use Rattle.line_form.specs.Forms.{bytes, whole}
use Rattle.frame_line.specs.Lines.{Line}
use Rattle.frame.specs.Frame.{Frame, parts_of, given_of, read_frame, accepted}
use Rattle.frame.specs.ReadFrame.{sheet_of}
use Rattle.frame_laws.specs.Calls.{frame_corners, calls_of}
use Rattle.frame_agreement.specs.Reordering.{SameButOrder, RunAlike}
use Rattle.frame_answer.specs.Answer.{answer_text}
use Rattle.result_agreement.specs.Alike.{ResultsAlike}
use Rattle.answer_examples.specs.Pair.{opening, said, corner, label, frame_with}

-- ---- the texts

abbrev pub patched_text : List ℕ
patched_text =
    opening
    ++ bytes "(corner (41200000 41200000) 00000000)\n(corner (41a00000 41200000) 00000000)\n"
    ++ bytes "(corner (41f00000 41200000) 00000000)\n(corner (42200000 41200000) 00000000)\n"
    ++ bytes "(label 0 (0 0))\n(label 1 (1 0))\n(patch)\n(label 1 (-4 0))\n(label 2 (-3 0))\n(grow)\n"

abbrev pub turned_text : List ℕ
turned_text =
    opening
    ++ bytes "(corner (42200000 41200000) 00000000)\n(corner (41f00000 41200000) 00000000)\n"
    ++ bytes "(corner (41a00000 41200000) 00000000)\n(corner (41200000 41200000) 00000000)\n"
    ++ bytes "(label 3 (0 0))\n(label 2 (1 0))\n(patch)\n(label 2 (-4 0))\n(label 1 (-3 0))\n(grow)\n"

-- ---- the frames

-- a label of the second set, its i below 0
abbrev pub lower : ℕ → ℤ → Line
lower k i = said 5 (whole (pos k) ∷ whole i ∷ whole (pos 0) ∷ [])

-- the labels of both sets
abbrev pub both_sets : ℕ → ℕ → ℕ → List Line
both_sets a b c = label a 0 0 ∷ label b 1 0 ∷ said 12 [] ∷ lower b (negsuc 3) ∷ lower c (negsuc 2) ∷ []

abbrev pub patched_frame : Frame
patched_frame =
    frame_with
    (corner 0x4120_0000 0x4120_0000 ∷ corner 0x41a0_0000 0x4120_0000 ∷ corner 0x41f0_0000 0x4120_0000 ∷ corner 0x4220_0000 0x4120_0000 ∷ [])
    (both_sets 0 1 2) (said 6 [] ∷ [])

abbrev pub turned_frame : Frame
turned_frame =
    frame_with
    (corner 0x4220_0000 0x4120_0000 ∷ corner 0x41f0_0000 0x4120_0000 ∷ corner 0x41a0_0000 0x4120_0000 ∷ corner 0x4120_0000 0x4120_0000 ∷ [])
    (both_sets 3 2 1) (said 6 [] ∷ [])

-- the number of each line in the other frame, either way
abbrev pub turned : List ℕ
turned = 3 ∷ 2 ∷ 1 ∷ 0 ∷ []

-- the shared corner 1 has cell (1 0) of the first set and (-4 0) of the second, which so moves by (5 0): the union
abbrev pub at : ℕ → ℕ → Placed
at k i = record { corner = k; cell = record { i = pos i; j = pos 0 } }

abbrev pub united : List Placed
united = at 0 0 ∷ at 1 1 ∷ at 2 2 ∷ []

-- ---- the answers: they differ in the corner numbers of their cell lines

abbrev pub patched_passes : List ℕ
patched_passes = bytes "(result 1)\n(grow 1 10 0 0 no)\n(role plant 1 10 0 0)\n(role depot 0 0 0 0)\n(role dealer 0 0 0 0)\n"

abbrev pub patched_marks : List ℕ
patched_marks =
    bytes "(hole (-1 0))\n(hole (0 -1))\n(hole (0 1))\n(hole (1 -1))\n(hole (1 1))\n(hole (2 -1))\n(hole (2 1))\n"
    ++ bytes "(hole (3 -1))\n(hole (3 1))\n(hole (4 0))\n"

abbrev pub patched_result : List ℕ
patched_result = patched_passes ++ bytes "(cell (0 0) 0)\n(cell (1 0) 1)\n(cell (2 0) 2)\n(cell (3 0) 3)\n" ++ patched_marks

abbrev pub turned_result : List ℕ
turned_result = patched_passes ++ bytes "(cell (0 0) 3)\n(cell (1 0) 2)\n(cell (2 0) 1)\n(cell (3 0) 0)\n" ++ patched_marks

-- ---- the claims

-- Both texts are accepted, the given labels of the first are the union, and the frames differ only in the order of their corner lines, paired as listed.
-- The pass has a factor above 1.
pub record PatchedMet : Type 0 where
  pub first_read : read_frame patched_text ≡ accepted patched_frame
  pub second_read : read_frame turned_text ≡ accepted turned_frame
  pub given : given_of (parts_of patched_frame) ≡ united
  pub same : SameButOrder patched_frame turned_frame
  pub pairing : (k : ℕ) → k < 4 → same.pairs.to k ≡ get_or turned k 0
  pub factors : FactorsAbove (calls_of patched_frame) (run (frame_corners patched_frame) (sheet_of patched_frame) (calls_of patched_frame))

-- So demand 3 holds of them: the runs of both frames are alike, and the answers differ only in the corner numbers of their cell lines. The second answer
-- is had from the first, by demand 3.
pub record PatchedAgreed (m : PatchedMet) : Type 0 where
  pub runs : RunAlike patched_frame turned_frame m.same
  pub results : ResultsAlike patched_text turned_text patched_frame turned_frame m.same
  pub first_answer : answer_text patched_text ≡ patched_result
  pub second_answer : answer_text turned_text ≡ turned_result
