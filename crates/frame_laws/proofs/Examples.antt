-- Frames read by the definition: 01's own example, which printing gives back, one with shades, one with two patches, one with as lines, and texts that
-- are refused. One theorem for the table.
use mathlib.Core.Path.{◌≡◌, refl}
use mathlib.Core.List.{List, [], ◌∷◌, ◌++◌, map}
use Prim.Native.Nat.{ℕ}
use lib.IntN.{pos, negsuc}
use lib.Ieee.{of_bits, of_int, le, lt, eq}
use Rattle.refusal.specs.declared.Refusal.{Refusal}
use Rattle.binary32.specs.Hex.{digits, digit_value, read_digits}
use Rattle.binary32.specs.Ranges.{ends_of}
use Rattle.sheet.specs.Cells.{on_sheet}
use Rattle.arguments.specs.Arguments.{outside}
use Rattle.join.specs.Join.{every, kept, cell_in, asks, asked, agree, agrees_in, tested, told, verdict, is_found, new_by, union, joined_by, joined}
use Rattle.line_form.specs.Integers.{decimal_up_to, decimal, integer_text, digits_after, read_positive, read_integer}
use Rattle.line_form.specs.Forms.{bytes, Number, bits, whole, number_text, printed, piece_of, fit_of}
use Rattle.line_form.specs.Lines.{lines_of}
use Rattle.line_form.specs.Written.{unheld_whole}
use Rattle.frame_line.specs.Table.{rows, row_at, kind_at, form_at, turn_at, may_end, sort_of, sort_at}
use Rattle.frame_line.specs.Lines.{Line, line_text, bits_at, whole_at, pass_line_of, first_fit, read_line}
use Rattle.frame_line.specs.Checks.{wild_bits, number_outside, some_outside, outside_line}
use Rattle.frame_check.specs.Checks.{checks_in_order, over_limit, twice_of, may_run, forbidden}
use Rattle.frame.specs.Frame.{Frame, opened, adding, parts_from, parts_of, some_of, checked_line, FrameRead, refused_at, accepted, join_of, finish, step_line, at_end, read_lines, read_frame}
use Rattle.frame.specs.Text.{frame_text}

abbrev pub first_four : List ℕ
first_four = bytes "(frame 1)\n(cell 41200000)\n(axes (3f800000 00000000) (00000000 3f800000))\n(band 3e800000)\n"

abbrev pub one_corner : List ℕ
one_corner = first_four ++ bytes "(corner (41200000 41200000) 00000000)\n"

-- 01's example, and what it says
abbrev pub example : List ℕ
example =
    one_corner
    ++ bytes "(corner (41a00000 41200000) 00000000)\n(corner (41f00000 41200000) 00000000)\n(label 0 (0 0))\n(label 1 (1 0))\n(grow)\n"

abbrev said : ℕ → List Number → Line
said k ns = record { row = k; numbers = ns }

abbrev pub meant : Frame
meant =
    said 0 []
    ∷ said 1 (bits 0x4120_0000 ∷ [])
    ∷ said 2 (bits 0x3f80_0000 ∷ bits 0 ∷ bits 0 ∷ bits 0x3f80_0000 ∷ [])
    ∷ said 3 (bits 0x3e80_0000 ∷ [])
    ∷ said 4 (bits 0x4120_0000 ∷ bits 0x4120_0000 ∷ bits 0 ∷ [])
    ∷ said 4 (bits 0x41a0_0000 ∷ bits 0x4120_0000 ∷ bits 0 ∷ [])
    ∷ said 4 (bits 0x41f0_0000 ∷ bits 0x4120_0000 ∷ bits 0 ∷ [])
    ∷ said 5 (whole (pos 0) ∷ whole (pos 0) ∷ whole (pos 0) ∷ [])
    ∷ said 5 (whole (pos 1) ∷ whole (pos 1) ∷ whole (pos 0) ∷ [])
    ∷ said 6 []
    ∷ []

-- shades behind the labels, the given label at cell (0 0) having kind 1, which no check minds
abbrev pub shaded_example : List ℕ
shaded_example = one_corner ++ bytes "(label 0 (0 0))\n(shade 0 1)\n(grow)\n"

abbrev pub shaded_meant : Frame
shaded_meant =
    said 0 []
    ∷ said 1 (bits 0x4120_0000 ∷ [])
    ∷ said 2 (bits 0x3f80_0000 ∷ bits 0 ∷ bits 0 ∷ bits 0x3f80_0000 ∷ [])
    ∷ said 3 (bits 0x3e80_0000 ∷ [])
    ∷ said 4 (bits 0x4120_0000 ∷ bits 0x4120_0000 ∷ bits 0 ∷ [])
    ∷ said 5 (whole (pos 0) ∷ whole (pos 0) ∷ whole (pos 0) ∷ [])
    ∷ said 11 (whole (pos 0) ∷ whole (pos 1) ∷ [])
    ∷ said 6 []
    ∷ []

-- corners 0, 1 and 2, the first two in one patch, the last two in the other, whose cells are 5 lower: the shared corner 1 moves it there
abbrev three_corners : List ℕ
three_corners = one_corner ++ bytes "(corner (41a00000 41200000) 00000000)\n(corner (41f00000 41200000) 00000000)\n"

abbrev pub patched_example : List ℕ
patched_example = three_corners ++ bytes "(label 0 (0 0))\n(label 1 (1 0))\n(patch)\n(label 1 (-4 0))\n(label 2 (-3 0))\n(grow)\n"

abbrev pub patched_meant : Frame
patched_meant =
    said 0 []
    ∷ said 1 (bits 0x4120_0000 ∷ [])
    ∷ said 2 (bits 0x3f80_0000 ∷ bits 0 ∷ bits 0 ∷ bits 0x3f80_0000 ∷ [])
    ∷ said 3 (bits 0x3e80_0000 ∷ [])
    ∷ said 4 (bits 0x4120_0000 ∷ bits 0x4120_0000 ∷ bits 0 ∷ [])
    ∷ said 4 (bits 0x41a0_0000 ∷ bits 0x4120_0000 ∷ bits 0 ∷ [])
    ∷ said 4 (bits 0x41f0_0000 ∷ bits 0x4120_0000 ∷ bits 0 ∷ [])
    ∷ said 5 (whole (pos 0) ∷ whole (pos 0) ∷ whole (pos 0) ∷ [])
    ∷ said 5 (whole (pos 1) ∷ whole (pos 1) ∷ whole (pos 0) ∷ [])
    ∷ said 12 []
    ∷ said 5 (whole (pos 1) ∷ whole (negsuc 3) ∷ whole (pos 0) ∷ [])
    ∷ said 5 (whole (pos 2) ∷ whole (negsuc 2) ∷ whole (pos 0) ∷ [])
    ∷ said 6 []
    ∷ []

-- the plant's before the first as line, then the dealer's, the depot's, and the plant's again
abbrev pub roled_example : List ℕ
roled_example =
    first_four
    ++ bytes "(local 3f000000 3fc00000 1 3f000000 1)\n(as dealer)\n(grow)\n(fill)\n(as depot)\n(fill 3f000000 3fc00000 2)\n(as plant)\n(grow)\n"

abbrev pub roled_meant : Frame
roled_meant =
    said 0 []
    ∷ said 1 (bits 0x4120_0000 ∷ [])
    ∷ said 2 (bits 0x3f80_0000 ∷ bits 0 ∷ bits 0 ∷ bits 0x3f80_0000 ∷ [])
    ∷ said 3 (bits 0x3e80_0000 ∷ [])
    ∷ said 10 (bits 0x3f00_0000 ∷ bits 0x3fc0_0000 ∷ whole (pos 1) ∷ bits 0x3f00_0000 ∷ whole (pos 1) ∷ [])
    ∷ said 15 []
    ∷ said 6 []
    ∷ said 8 []
    ∷ said 14 []
    ∷ said 9 (bits 0x3f00_0000 ∷ bits 0x3fc0_0000 ∷ whole (pos 2) ∷ [])
    ∷ said 13 []
    ∷ said 6 []
    ∷ []

abbrev pub four_passes : List ℕ
four_passes = bytes "(grow)\n(fill)\n(grow)\n(fill)\n"

-- sixteen passes and as many as lines
abbrev roled_pass : List ℕ
roled_pass = bytes "(as dealer)\n(grow)\n"

abbrev four_roled : List ℕ
four_roled = roled_pass ++ (roled_pass ++ (roled_pass ++ roled_pass))

abbrev sixteen_roled : List ℕ
sixteen_roled = first_four ++ (four_roled ++ (four_roled ++ (four_roled ++ four_roled)))

abbrev pub sixteen_passes : List ℕ
sixteen_passes = first_four ++ (four_passes ++ (four_passes ++ (four_passes ++ four_passes)))

-- a text, and what reading it gives
pub record Case : Type 0 where
  pub text : List ℕ
  pub read : FrameRead

abbrev pub case : List ℕ → FrameRead → Case
case text read = record { text = text; read = read }

abbrev pub table : List Case
table =
    case example (accepted meant)
    -- no bytes at all: the first line is missing; three lines: the band is; a last line without its LF
    ∷ case [] (refused_at Refusal.Malformed 1)
    ∷ case (bytes "(frame 1)\n(cell 41200000)\n(axes (3f800000 00000000) (00000000 3f800000))\n") (refused_at Refusal.Malformed 4)
    ∷ case (bytes "(frame 1)\n(cell 41200000)") (refused_at Refusal.Malformed 2)
    -- a corner behind a pass
    ∷ case (first_four ++ bytes "(grow)\n(corner (41200000 41200000) 00000000)\n") (refused_at Refusal.Malformed 6)
    -- a 17th pass, also where its number is wild; but ill-formed comes first
    ∷ case (sixteen_passes ++ bytes "(grow)\n") (refused_at Refusal.OverLimit 21)
    ∷ case (sixteen_passes ++ bytes "(fill 7fc00000 00000000 65)\n") (refused_at Refusal.OverLimit 21)
    ∷ case (sixteen_passes ++ bytes "(grow )\n") (refused_at Refusal.Malformed 21)
    -- above 16,384; an infinity; 65 rounds
    ∷ case (first_four ++ bytes "(corner (46800001 00000000) 00000000)\n") (refused_at Refusal.OutOfRange 5)
    ∷ case (one_corner ++ bytes "(corner (00000000 7f800000) 00000000)\n") (refused_at Refusal.OutOfRange 6)
    ∷ case (first_four ++ bytes "(fill 3f000000 3f800000 65)\n") (refused_at Refusal.OutOfRange 5)
    -- off the sheet before not given; not given; below 0; labelled twice
    ∷ case (one_corner ++ bytes "(label 1 (64 0))\n") (refused_at Refusal.OffSheet 6)
    ∷ case (one_corner ++ bytes "(label 1 (63 0))\n") (refused_at Refusal.UnknownCorner 6)
    ∷ case (one_corner ++ bytes "(label -1 (0 -64))\n") (refused_at Refusal.UnknownCorner 6)
    ∷ case (one_corner ++ bytes "(label 0 (0 0))\n(label 0 (1 0))\n") (refused_at Refusal.Duplicate 7)
    -- shades: read; behind a pass; before a label
    ∷ case shaded_example (accepted shaded_meant)
    ∷ case (one_corner ++ bytes "(grow)\n(shade 0 1)\n") (refused_at Refusal.Malformed 7)
    ∷ case (one_corner ++ bytes "(shade 0 1)\n(label 0 (0 0))\n") (refused_at Refusal.Malformed 7)
    -- a kind of 2 before a corner that is not given; below 0; two digits; not given; a second shade, of another kind too
    ∷ case (one_corner ++ bytes "(shade 1 2)\n") (refused_at Refusal.Malformed 6)
    ∷ case (one_corner ++ bytes "(shade 0 -1)\n") (refused_at Refusal.Malformed 6)
    ∷ case (one_corner ++ bytes "(shade 0 00)\n") (refused_at Refusal.Malformed 6)
    ∷ case (one_corner ++ bytes "(shade 1 0)\n") (refused_at Refusal.UnknownCorner 6)
    ∷ case (one_corner ++ bytes "(shade 0 0)\n(shade 0 1)\n") (refused_at Refusal.Duplicate 7)
    -- two patches: joined; apart, also where there is no label at all; two shifts; a cell that another corner holds; off the sheet; a label of the second
    -- set that is off in its own numbers
    ∷ case patched_example (accepted patched_meant)
    ∷ case (three_corners ++ bytes "(label 0 (0 0))\n(patch)\n(label 1 (0 0))\n(grow)\n") (refused_at Refusal.NoSharedCorner 9)
    ∷ case (first_four ++ bytes "(patch)\n") (refused_at Refusal.NoSharedCorner 5)
    ∷ case (three_corners ++ bytes "(label 0 (0 0))\n(label 1 (1 0))\n(patch)\n(label 0 (0 0))\n(label 1 (0 1))\n") (refused_at Refusal.PatchesClash 10)
    ∷ case (three_corners ++ bytes "(label 0 (0 0))\n(label 1 (1 0))\n(patch)\n(label 0 (5 0))\n(label 2 (6 0))\n") (refused_at Refusal.PatchesClash 10)
    ∷ case (three_corners ++ bytes "(label 0 (63 0))\n(patch)\n(label 0 (0 0))\n(label 1 (1 0))\n") (refused_at Refusal.OffSheet 9)
    ∷ case (three_corners ++ bytes "(label 0 (63 0))\n(patch)\n(label 0 (64 0))\n") (refused_at Refusal.OffSheet 10)
    -- 9 before 4; a later line's own number before 8
    ∷ case (three_corners ++ bytes "(label 0 (63 0))\n(label 1 (1 0))\n(patch)\n(label 0 (0 0))\n(label 1 (1 0))\n") (refused_at Refusal.PatchesClash 10)
    ∷ case (three_corners ++ bytes "(patch)\n(shade 3 0)\n") (refused_at Refusal.UnknownCorner 9)
    -- 6 inside each set alone; a second patch line; a patch line behind a shade; a corner behind a patch line
    ∷ case (three_corners ++ bytes "(label 0 (0 0))\n(patch)\n(label 0 (0 0))\n(label 1 (0 0))\n") (refused_at Refusal.Duplicate 11)
    ∷ case (three_corners ++ bytes "(label 0 (0 0))\n(patch)\n(label 0 (0 0))\n(patch)\n") (refused_at Refusal.Malformed 11)
    ∷ case (three_corners ++ bytes "(shade 0 0)\n(patch)\n") (refused_at Refusal.Malformed 9)
    ∷ case (three_corners ++ bytes "(patch)\n(corner (41200000 41200000) 00000000)\n") (refused_at Refusal.Malformed 9)
    -- as lines: read; a dealer's full grow, its numbers those of a bare one; a depot's local; the role holds over the next pass
    ∷ case roled_example (accepted roled_meant)
    ∷ case (first_four ++ bytes "(as dealer)\n(grow 3eb33333 3fc00000 3fa00000)\n") (refused_at Refusal.NotPermitted 6)
    ∷ case (first_four ++ bytes "(as depot)\n(local 3f000000 3fc00000 1 3f000000 1)\n") (refused_at Refusal.NotPermitted 6)
    ∷ case (first_four ++ bytes "(as dealer)\n(fill)\n(fill 3f000000 3fc00000 2)\n") (refused_at Refusal.NotPermitted 7)
    -- a wild number before 10; a 17th pass before both; 10 before 8
    ∷ case (first_four ++ bytes "(as dealer)\n(fill 3f000000 3fc00000 65)\n") (refused_at Refusal.OutOfRange 6)
    ∷ case (sixteen_passes ++ bytes "(as dealer)\n(fill 3f000000 3fc00000 65)\n") (refused_at Refusal.OverLimit 22)
    ∷ case (first_four ++ bytes "(patch)\n(as dealer)\n(fill 3f000000 3fc00000 2)\n") (refused_at Refusal.NotPermitted 7)
    -- as lines are no passes: sixteen passes with an as line each, then another as line and a 17th pass
    ∷ case (sixteen_roled ++ bytes "(as plant)\n(grow)\n") (refused_at Refusal.OverLimit 38)
    -- behind an as line another, a label, the end
    ∷ case (one_corner ++ bytes "(as dealer)\n(as plant)\n(grow)\n") (refused_at Refusal.Malformed 7)
    ∷ case (one_corner ++ bytes "(as plant)\n(label 0 (0 0))\n") (refused_at Refusal.Malformed 7)
    ∷ case (one_corner ++ bytes "(as plant)\n") (refused_at Refusal.Malformed 7)
    ∷ []

pub examples_read : map (λ (c : Case). read_frame c.text) table ≡ map (λ (c : Case). c.read) table
unfolding of_bits of_int le lt eq digits digit_value read_digits ends_of outside decimal_up_to decimal integer_text digits_after read_positive read_integer unheld_whole number_text printed piece_of fit_of lines_of rows row_at kind_at form_at turn_at may_end sort_of sort_at line_text bits_at whole_at pass_line_of first_fit read_line wild_bits number_outside some_outside outside_line checks_in_order over_limit twice_of may_run forbidden opened adding parts_from parts_of some_of checked_line every kept cell_in asks asked agree agrees_in on_sheet tested told verdict is_found new_by union joined_by joined join_of finish step_line at_end read_lines read_frame
examples_read = refl

pub example_printed : frame_text meant ≡ example
unfolding digits decimal_up_to decimal integer_text number_text printed rows row_at form_at line_text frame_text
example_printed = refl

pub shaded_printed : frame_text shaded_meant ≡ shaded_example
unfolding digits decimal_up_to decimal integer_text number_text printed rows row_at form_at line_text frame_text
shaded_printed = refl

pub patched_printed : frame_text patched_meant ≡ patched_example
unfolding digits decimal_up_to decimal integer_text number_text printed rows row_at form_at line_text frame_text
patched_printed = refl

pub roled_printed : frame_text roled_meant ≡ roled_example
unfolding digits decimal_up_to decimal integer_text number_text printed rows row_at form_at line_text frame_text
roled_printed = refl
