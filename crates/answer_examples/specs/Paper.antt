-- Document 01's example, "Frame and result": "This frame" and what it "gives", with the three lines that it gains by document 02, 7/14. Its bare
-- grow is that of 2/14, and gives the same: corner 2 stands exactly where cell (2 0) is expected, and no other corner is without a label.
-- Definitions only.
use Rattle.std.specs.Prelude.{◌≡◌, List, ◌++◌, ℕ}
use Rattle.line_form.specs.Forms.{bytes}
use Rattle.frame_answer.specs.Answer.{answer_text}

abbrev pub example_text : List ℕ
example_text =
    bytes "(frame 1)\n(cell 41200000)\n(axes (3f800000 00000000) (00000000 3f800000))\n(band 3e800000)\n"
    ++ bytes "(corner (41200000 41200000) 00000000)\n(corner (41a00000 41200000) 00000000)\n(corner (41f00000 41200000) 00000000)\n"
    ++ bytes "(label 0 (0 0))\n(label 1 (1 0))\n(grow)\n"

abbrev pub example_result : List ℕ
example_result =
    bytes "(result 1)\n(grow 1 8 0 0 no)\n(role plant 1 8 0 0)\n(role depot 0 0 0 0)\n(role dealer 0 0 0 0)\n"
    ++ bytes "(cell (0 0) 0)\n(cell (1 0) 1)\n(cell (2 0) 2)\n"
    ++ bytes "(hole (-1 0))\n(hole (0 -1))\n(hole (0 1))\n(hole (1 -1))\n(hole (1 1))\n(hole (2 -1))\n(hole (2 1))\n(hole (3 0))\n"

-- the frame gives the result
abbrev pub ExampleAnswered : Type 0
ExampleAnswered = answer_text example_text ≡ example_result
