-- Two texts that differ only in their grow line (document 02, 2/14): 01's example with its corner 2 moved to (30 15), 5 off from where cell (2 0) is
-- expected. The radius there, past the labels, is 4.375 for bare grow and 7 for the line that means what it meant before. `proofs/Boundary.antt` proves
-- `BoundaryAnswered`. Definitions only.
use Rattle.std.specs.Prelude.{◌≡◌, List, [], ◌∷◌, ◌++◌, ℕ}
use Rattle.line_form.specs.Forms.{bytes, bits}
use Rattle.frame_line.specs.Lines.{Line}
use Rattle.frame.specs.Frame.{Frame}
use Rattle.frame_answer.specs.Answer.{answer_text}
use Rattle.answer_examples.specs.Pair.{opening, said, corner, label, frame_with}
use Rattle.answer_examples.specs.Paper.{example_result}

-- ---- the texts

abbrev pub text_off : List ℕ → List ℕ
text_off grow =
    opening
    ++ bytes "(corner (41200000 41200000) 00000000)\n(corner (41a00000 41200000) 00000000)\n(corner (41f00000 41700000) 00000000)\n"
    ++ bytes "(label 0 (0 0))\n(label 1 (1 0))\n"
    ++ grow

abbrev pub bare_text : List ℕ
bare_text = text_off (bytes "(grow)\n")

abbrev pub old_text : List ℕ
old_text = text_off (bytes "(grow 3eb33333 3fc00000 40000000)\n")

-- ---- the frames

abbrev pub frame_off : Line → Frame
frame_off grow =
    frame_with (corner 0x4120_0000 0x4120_0000 ∷ corner 0x41a0_0000 0x4120_0000 ∷ corner 0x41f0_0000 0x4170_0000 ∷ []) (label 0 0 0 ∷ label 1 1 0 ∷ [])
    (grow ∷ [])

abbrev pub bare_frame : Frame
bare_frame = frame_off (said 6 [])

abbrev pub old_frame : Frame
old_frame = frame_off (said 7 (bits 0x3eb3_3333 ∷ bits 0x3fc0_0000 ∷ bits 0x4000_0000 ∷ []))

-- ---- the answers

-- cell (2 0) is a hole
abbrev pub bare_result : List ℕ
bare_result =
    bytes "(result 1)\n(grow 0 6 0 0 no)\n(role plant 0 6 0 0)\n(role depot 0 0 0 0)\n(role dealer 0 0 0 0)\n(cell (0 0) 0)\n(cell (1 0) 1)\n"
    ++ bytes "(hole (-1 0))\n(hole (0 -1))\n(hole (0 1))\n(hole (1 -1))\n(hole (1 1))\n(hole (2 0))\n"

-- "Depots that relied on 2.0 write `(grow 3eb33333 3fc00000 40000000)`": there corner 2 is taken, and the result is that of 01's example
pub record BoundaryAnswered : Type 0 where
  pub bare : answer_text bare_text ≡ bare_result
  pub old : answer_text old_text ≡ example_result
