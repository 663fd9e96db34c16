-- What the answer of the reader says, in document 01's numbers and values: a refusal's number and line, or what the frame's lines give, in the order
-- of the lines. Definitions only.
use Rattle.std.specs.Prelude.{cond, List, ◌∷◌, ℕ, length, Result, Ok, Err}
use Rattle.refusal.specs.declared.Refusal.{Refusal}
use Rattle.refusal.specs.Refusal.{number_of}
use Rattle.refusal.specs.Said.{Value, whole, float, Said, number_and_line, values}
use Rattle.sheet.specs.Words.{empty_sheet}
use Rattle.labels.specs.Kept.{box_kept}
use Rattle.join.specs.Sheets.{labelled}
use Rattle.arguments.specs.Around.{box_values}
use Rattle.frame.specs.Frame.{Parts, parts_of, given_of, FrameRead, refused_at, accepted, read_frame}
use Rattle.frame.specs.ReadFrame.{float_of, Buffers, too_short}
use Rattle.frame.specs.declared.FrameHead.{FrameHead}
use Rattle.frame.specs.declared.FrameRefusal.{FrameRefusal}

-- a refusal that is about no line
abbrev pub about_no_line : Refusal → FrameRefusal
about_no_line r = record { refusal = r; line = 0 }

-- ---- the answer by its cases

-- cell, axes (of i, then of j), band, how many corners, how many passes, the label box of the sheet
unfoldable pub head_values : FrameHead → List Value
head_values h =
    float h.settings.grid.cell_size
    ∷ float h.settings.grid.axis_i.x
    ∷ float h.settings.grid.axis_i.y
    ∷ float h.settings.grid.axis_j.x
    ∷ float h.settings.grid.axis_j.y
    ∷ float h.settings.edge_length_tol
    ∷ whole h.corners
    ∷ whole h.passes
    ∷ box_values h.around

unfoldable pub frame_said : Result FrameHead FrameRefusal → Said
frame_said (Err e) = number_and_line (number_of e.refusal) e.line
frame_said (Ok h) = values (head_values h)

-- ---- what an answer is due to say

-- the same of what a frame's lines say
unfoldable pub line_values : Parts → List Value
line_values p =
    float (float_of p.opening.cell)
    ∷ float (float_of p.opening.axes.ix)
    ∷ float (float_of p.opening.axes.iy)
    ∷ float (float_of p.opening.axes.jx)
    ∷ float (float_of p.opening.axes.jy)
    ∷ float (float_of p.opening.band)
    ∷ whole (length p.corners)
    ∷ whole (length p.passes)
    ∷ box_values (box_kept (labelled empty_sheet (given_of p)))

unfoldable pub read_due : FrameRead → Said
read_due (refused_at r line) = number_and_line (number_of r) line
read_due (accepted f) = values (line_values (parts_of f))

-- "The library tries 7" first; it is about no line
unfoldable pub frame_due : List ℕ → Buffers → Said
frame_due text b = cond (too_short b) (number_and_line 7 0) (read_due (read_frame text))
