-- Two texts with shades (document 02, 1/14) that differ only in the order of their corner lines, labels renumbered and shades relisted to match; their
-- frames, the answers to both, and what is claimed of them. Eight corners, four of them with a shade; four given labels, one of a corner whose kind its
-- cell does not take; a local and a grow, each of which attaches a corner. `proofs/Shaded.antt` proves `ShadedMet` and `ShadedAgreed`. Definitions only.
use Rattle.std.specs.Prelude.{◌≡◌, List, [], ◌∷◌, ◌++◌, map, ℕ, ◌<◌, pos, get_or}
use Rattle.sheet.specs.Shades.{bare, kind}
use Rattle.arguments.specs.Shades.{shade_of}
use Rattle.passes.specs.Run.{run}
use Rattle.agreement.specs.Agreement.{FactorsAbove}
use Rattle.line_form.specs.Forms.{bytes, whole}
use Rattle.frame_line.specs.Lines.{Line}
use Rattle.frame.specs.Frame.{Frame, parts_of, read_frame, accepted}
use Rattle.frame.specs.ReadFrame.{shades_of, sheet_of}
use Rattle.frame_laws.specs.Calls.{frame_corners, calls_of}
use Rattle.frame_agreement.specs.Reordering.{SameButOrder, RelistedLines, RunAlike}
use Rattle.frame_answer.specs.Answer.{answer_text}
use Rattle.result_agreement.specs.Alike.{ResultsAlike}
use Rattle.answer_examples.specs.Pair.{opening, said, corner, four_labels, local_and, frame_with}

-- ---- the texts

-- the local of the other pair, whose radius is 1, and a bare grow
abbrev pub two_passes : List ℕ
two_passes = bytes "(local 3dcccccd 3fc00000 1 3e800000 1)\n(grow)\n"

abbrev pub shaded_text : List ℕ
shaded_text =
    opening
    ++ bytes "(corner (41200000 41200000) 00000000)\n(corner (41a00000 41200000) 00000000)\n(corner (41200000 41a00000) 00000000)\n"
    ++ bytes "(corner (41a00000 41a00000) 00000000)\n(corner (41f00000 41200000) 00000000)\n(corner (41f40000 41200000) 00000000)\n"
    ++ bytes "(corner (41200000 41f00000) 00000000)\n(corner (41a00000 42000000) 00000000)\n"
    ++ bytes "(label 0 (0 0))\n(label 1 (1 0))\n(label 2 (0 1))\n(label 3 (1 1))\n(shade 0 1)\n(shade 4 1)\n(shade 5 0)\n(shade 7 1)\n"
    ++ two_passes

-- its shade lines stand in another order too
abbrev pub relisted_text : List ℕ
relisted_text =
    opening
    ++ bytes "(corner (41f40000 41200000) 00000000)\n(corner (41a00000 41a00000) 00000000)\n(corner (41a00000 42000000) 00000000)\n"
    ++ bytes "(corner (41200000 41200000) 00000000)\n(corner (41f00000 41200000) 00000000)\n(corner (41200000 41a00000) 00000000)\n"
    ++ bytes "(corner (41200000 41f00000) 00000000)\n(corner (41a00000 41200000) 00000000)\n"
    ++ bytes "(label 3 (0 0))\n(label 7 (1 0))\n(label 5 (0 1))\n(label 1 (1 1))\n(shade 0 0)\n(shade 2 1)\n(shade 3 1)\n(shade 4 1)\n"
    ++ two_passes

-- ---- the frames

abbrev pub shade : ℕ → ℕ → Line
shade n k = said 11 (whole (pos n) ∷ whole (pos k) ∷ [])

-- (10 10), (20 10), (10 20), (20 20), (30 10), (30.5 10), (10 30) and (20 32), each with pitch 0
abbrev pub shaded_corners : List Line
shaded_corners =
    corner 0x4120_0000 0x4120_0000
    ∷ corner 0x41a0_0000 0x4120_0000
    ∷ corner 0x4120_0000 0x41a0_0000
    ∷ corner 0x41a0_0000 0x41a0_0000
    ∷ corner 0x41f0_0000 0x4120_0000
    ∷ corner 0x41f4_0000 0x4120_0000
    ∷ corner 0x4120_0000 0x41f0_0000
    ∷ corner 0x41a0_0000 0x4200_0000
    ∷ []

-- the same lines in another order: those of numbers 5, 3, 7, 0, 4, 2, 6 and 1 above
abbrev pub relisted_corners : List Line
relisted_corners =
    corner 0x41f4_0000 0x4120_0000
    ∷ corner 0x41a0_0000 0x41a0_0000
    ∷ corner 0x41a0_0000 0x4200_0000
    ∷ corner 0x4120_0000 0x4120_0000
    ∷ corner 0x41f0_0000 0x4120_0000
    ∷ corner 0x4120_0000 0x41a0_0000
    ∷ corner 0x4120_0000 0x41f0_0000
    ∷ corner 0x41a0_0000 0x4120_0000
    ∷ []

abbrev pub shaded_frame : Frame
shaded_frame = frame_with shaded_corners (four_labels 0 1 2 3 ++ (shade 0 1 ∷ shade 4 1 ∷ shade 5 0 ∷ shade 7 1 ∷ [])) (local_and (said 6 [] ∷ []))

abbrev pub relisted_frame : Frame
relisted_frame = frame_with relisted_corners (four_labels 3 7 5 1 ++ (shade 0 0 ∷ shade 2 1 ∷ shade 3 1 ∷ shade 4 1 ∷ [])) (local_and (said 6 [] ∷ []))

-- the number of each line in the other frame
abbrev pub numbers_in_relisted : List ℕ
numbers_in_relisted = 3 ∷ 7 ∷ 5 ∷ 1 ∷ 4 ∷ 0 ∷ 6 ∷ 2 ∷ []

abbrev pub numbers_in_shaded : List ℕ
numbers_in_shaded = 5 ∷ 3 ∷ 7 ∷ 0 ∷ 4 ∷ 2 ∷ 6 ∷ 1 ∷ []

-- ---- the answers: they differ in the corner numbers of their cell lines

-- At cell (2 0), which takes kind 0, local passes over corner 4, which is nearer and of kind 1, and attaches corner 5, of kind 0; at cell (0 2) it passes
-- over corner 6, which has no shade. Grow attaches corner 7, of kind 1, at cell (1 2). The given label at cell (0 0) stays, its corner of kind 1.
abbrev pub shaded_passes : List ℕ
shaded_passes =
    bytes "(result 1)\n(local 1 11 0 0 1 36800000 no)\n(unmatched 2)\n(grow 1 10 0 0 no)\n(role plant 2 21 0 0)\n(role depot 0 0 0 0)\n(role dealer 0 0 0 0)\n"

abbrev pub shaded_marks : List ℕ
shaded_marks =
    bytes "(hole (-1 0))\n(hole (-1 1))\n(hole (0 -1))\n(hole (0 2))\n(hole (1 -1))\n(hole (1 3))\n(hole (2 -1))\n(hole (2 1))\n"
    ++ bytes "(hole (2 2))\n(hole (3 0))\n"

abbrev pub shaded_result : List ℕ
shaded_result =
    shaded_passes ++ bytes "(cell (0 0) 0)\n(cell (0 1) 2)\n(cell (1 0) 1)\n(cell (1 1) 3)\n(cell (1 2) 7)\n(cell (2 0) 5)\n" ++ shaded_marks

abbrev pub relisted_result : List ℕ
relisted_result =
    shaded_passes ++ bytes "(cell (0 0) 3)\n(cell (0 1) 5)\n(cell (1 0) 7)\n(cell (1 1) 1)\n(cell (1 2) 2)\n(cell (2 0) 0)\n" ++ shaded_marks

-- ---- the claims

-- Both texts are accepted, the corners of the first have these shades, and the frames differ only in the order of their corner lines, paired as listed.
-- Each pass has a factor above 1.
pub record ShadedMet : Type 0 where
  pub first_read : read_frame shaded_text ≡ accepted shaded_frame
  pub second_read : read_frame relisted_text ≡ accepted relisted_frame
  pub shades : map shade_of (shades_of shaded_frame) ≡ kind 1 ∷ bare ∷ bare ∷ bare ∷ kind 1 ∷ kind 0 ∷ bare ∷ kind 1 ∷ []
  pub same : SameButOrder shaded_frame relisted_frame
  pub pairing : (k : ℕ) → k < 8 → same.pairs.to k ≡ get_or numbers_in_relisted k 0
  pub factors : FactorsAbove (calls_of shaded_frame) (run (frame_corners shaded_frame) (sheet_of shaded_frame) (calls_of shaded_frame))

-- So demand 3 holds of them: the shade lines are relisted, the runs of both frames are alike, and the answers differ only in the corner numbers of their
-- cell lines. The second answer is had from the first, by demand 3.
pub record ShadedAgreed (m : ShadedMet) : Type 0 where
  pub lines : RelistedLines m.same.pairs (parts_of shaded_frame).shades (parts_of relisted_frame).shades
  pub runs : RunAlike shaded_frame relisted_frame m.same
  pub results : ResultsAlike shaded_text relisted_text shaded_frame relisted_frame m.same
  pub first_answer : answer_text shaded_text ≡ shaded_result
  pub second_answer : answer_text relisted_text ≡ relisted_result
