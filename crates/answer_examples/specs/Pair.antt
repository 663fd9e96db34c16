-- Two texts that differ only in the order of their corner lines, labels renumbered to match; their frames, and the answers to both. Ten corner lines, two of
-- them equal; four given labels; a local, a grow and a fill, each of which attaches a corner. Definitions only.
use Rattle.std.specs.Prelude.{List, [], ◌∷◌, ◌++◌, ℕ, pos}
use Rattle.line_form.specs.Forms.{bytes, Number, bits, whole}
use Rattle.frame_line.specs.Lines.{Line, PassLine, local}
use Rattle.frame.specs.Frame.{Frame}

-- ---- the texts

-- cell size 10, axes (1 0) and (0 1), band 0.25
abbrev pub opening : List ℕ
opening = bytes "(frame 1)\n(cell 41200000)\n(axes (3f800000 00000000) (00000000 3f800000))\n(band 3e800000)\n"

-- a local of search 0.1, factor 1.5, one round, residual 0.25 and depth 1, and bare passes
abbrev pub passes_text : List ℕ
passes_text = bytes "(local 3dcccccd 3fc00000 1 3e800000 1)\n(grow)\n(fill)\n"

abbrev pub first_text : List ℕ
first_text =
    opening
    ++ bytes "(corner (41200000 41200000) 00000000)\n(corner (41a00000 41200000) 00000000)\n(corner (41200000 41a00000) 00000000)\n"
    ++ bytes "(corner (41a40000 41a40000) 00000000)\n(corner (41f00000 41200000) 00000000)\n(corner (41200000 42000000) 00000000)\n"
    ++ bytes "(corner (00000000 41200000) 00000000)\n(corner (00000000 41200000) 00000000)\n(corner (42200000 41200000) 00000000)\n"
    ++ bytes "(corner (422c0000 41200000) 00000000)\n(label 0 (0 0))\n(label 1 (1 0))\n(label 2 (0 1))\n(label 3 (1 1))\n"
    ++ passes_text

abbrev pub second_text : List ℕ
second_text =
    opening
    ++ bytes "(corner (00000000 41200000) 00000000)\n(corner (41a40000 41a40000) 00000000)\n(corner (422c0000 41200000) 00000000)\n"
    ++ bytes "(corner (41200000 41200000) 00000000)\n(corner (41200000 42000000) 00000000)\n(corner (42200000 41200000) 00000000)\n"
    ++ bytes "(corner (00000000 41200000) 00000000)\n(corner (41a00000 41200000) 00000000)\n(corner (41f00000 41200000) 00000000)\n"
    ++ bytes "(corner (41200000 41a00000) 00000000)\n(label 3 (0 0))\n(label 7 (1 0))\n(label 9 (0 1))\n(label 1 (1 1))\n"
    ++ passes_text

-- ---- the frames

-- a line by its row of the table
abbrev pub said : ℕ → List Number → Line
said k ns = record { row = k; numbers = ns }

abbrev pub corner : ℕ → ℕ → Line
corner x y = said 4 (bits x ∷ bits y ∷ bits 0 ∷ [])

abbrev pub label : ℕ → ℕ → ℕ → Line
label k i j = said 5 (whole (pos k) ∷ whole (pos i) ∷ whole (pos j) ∷ [])

-- four corners, at (0 0), (1 0), (0 1) and (1 1)
abbrev pub four_labels : ℕ → ℕ → ℕ → ℕ → List Line
four_labels a b c d = label a 0 0 ∷ label b 1 0 ∷ label c 0 1 ∷ label d 1 1 ∷ []

abbrev pub local_line : PassLine
local_line = local 0x3dcc_cccd 0x3fc0_0000 (pos 1) 0x3e80_0000 (pos 1)

-- the local as a line, and behind it the bare passes
abbrev pub local_and : List Line → List Line
local_and bare = said 10 (bits 0x3dcc_cccd ∷ bits 0x3fc0_0000 ∷ whole (pos 1) ∷ bits 0x3e80_0000 ∷ whole (pos 1) ∷ []) ∷ bare

-- the opening lines, the corners, labels with shades if there are any, and the passes
abbrev pub frame_with : List Line → List Line → List Line → Frame
frame_with corners labels passes =
    said 0 []
    ∷ said 1 (bits 0x4120_0000 ∷ [])
    ∷ said 2 (bits 0x3f80_0000 ∷ bits 0 ∷ bits 0 ∷ bits 0x3f80_0000 ∷ [])
    ∷ said 3 (bits 0x3e80_0000 ∷ [])
    ∷ (corners ++ (labels ++ passes))

-- (10 10), (20 10), (10 20), (20.5 20.5), (30 10), (10 32), (0 10), (0 10) once more, (40 10) and (43 10), each with pitch 0
abbrev pub first_corners : List Line
first_corners =
    corner 0x4120_0000 0x4120_0000
    ∷ corner 0x41a0_0000 0x4120_0000
    ∷ corner 0x4120_0000 0x41a0_0000
    ∷ corner 0x41a4_0000 0x41a4_0000
    ∷ corner 0x41f0_0000 0x4120_0000
    ∷ corner 0x4120_0000 0x4200_0000
    ∷ corner 0x0000_0000 0x4120_0000
    ∷ corner 0x0000_0000 0x4120_0000
    ∷ corner 0x4220_0000 0x4120_0000
    ∷ corner 0x422c_0000 0x4120_0000
    ∷ []

-- the same lines in another order: those of numbers 6, 3, 9, 0, 5, 8, 7, 1, 4 and 2 above
abbrev pub second_corners : List Line
second_corners =
    corner 0x0000_0000 0x4120_0000
    ∷ corner 0x41a4_0000 0x41a4_0000
    ∷ corner 0x422c_0000 0x4120_0000
    ∷ corner 0x4120_0000 0x4120_0000
    ∷ corner 0x4120_0000 0x4200_0000
    ∷ corner 0x4220_0000 0x4120_0000
    ∷ corner 0x0000_0000 0x4120_0000
    ∷ corner 0x41a0_0000 0x4120_0000
    ∷ corner 0x41f0_0000 0x4120_0000
    ∷ corner 0x4120_0000 0x41a0_0000
    ∷ []

abbrev pub three_passes : List Line
three_passes = local_and (said 6 [] ∷ said 8 [] ∷ [])

abbrev pub first_frame : Frame
first_frame = frame_with first_corners (four_labels 0 1 2 3) three_passes

abbrev pub second_frame : Frame
second_frame = frame_with second_corners (four_labels 3 7 9 1) three_passes

-- the number of each line in the other frame
abbrev pub numbers_in_second : List ℕ
numbers_in_second = 3 ∷ 7 ∷ 9 ∷ 1 ∷ 8 ∷ 4 ∷ 0 ∷ 6 ∷ 5 ∷ 2 ∷ []

abbrev pub numbers_in_first : List ℕ
numbers_in_first = 6 ∷ 3 ∷ 9 ∷ 0 ∷ 5 ∷ 8 ∷ 7 ∷ 1 ∷ 4 ∷ 2 ∷ []

-- ---- the answers: they differ in the corner numbers of their cell lines

-- local attaches the corner at (2 0), grow that at (0 2), and fill, which has a floor where grow has none, that at (3 0); the plant runs all three
abbrev pub passes_said : List ℕ
passes_said =
    bytes "(result 1)\n(local 1 10 1 0 1 363504f3 no)\n(grow 1 8 2 0 no)\n(fill 1 1 no)\n(role plant 3 18 3 0)\n(role depot 0 0 0 0)\n(role dealer 0 0 0 0)\n"

abbrev pub marks : List ℕ
marks =
    bytes "(hole (-1 1))\n(hole (-1 2))\n(hole (0 -1))\n(hole (0 3))\n(hole (1 -1))\n(hole (1 2))\n(hole (2 -1))\n(hole (2 1))\n"
    ++ bytes "(ambiguous (-1 0))\n(ambiguous (3 0))\n"

abbrev pub first_result : List ℕ
first_result =
    passes_said
    ++ bytes "(cell (0 0) 0)\n(cell (0 1) 2)\n(cell (0 2) 5)\n(cell (1 0) 1)\n(cell (1 1) 3)\n(cell (2 0) 4)\n(cell (3 0) 8)\n"
    ++ marks

abbrev pub second_result : List ℕ
second_result =
    passes_said
    ++ bytes "(cell (0 0) 3)\n(cell (0 1) 9)\n(cell (0 2) 4)\n(cell (1 0) 7)\n(cell (1 1) 1)\n(cell (2 0) 8)\n(cell (3 0) 5)\n"
    ++ marks
