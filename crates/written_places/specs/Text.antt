-- The text of a result whose sheet has few written places. `proofs/Text.antt` shows that it is the result's text. Definitions only.
use Rattle.std.specs.Prelude.{cond, List, [], ◌++◌, ℕ}
use Rattle.sheet.specs.Cells.{cell_of}
use Rattle.sheet.specs.Words.{label_of, hole_of, ambiguous_of}
use Rattle.line_form.specs.Forms.{bytes, printed}
use Rattle.role_counts.specs.RoleCounts.{RoledStats}
use Rattle.report_line.specs.Result.{cell_numbers, label_line, pass_lines, role_lines, heading}
use Rattle.written_places.specs.Written.{Written, told}

-- what a place says whose word is given
abbrev pub cell_says : ℕ → ℕ → List ℕ
cell_says p v = label_line (cell_of p) (label_of v)

abbrev pub hole_says : ℕ → ℕ → List ℕ
hole_says p v = cond (hole_of v) (printed (bytes "(hole (# #))\n") (cell_numbers (cell_of p) [])) []

abbrev pub ambiguous_says : ℕ → ℕ → List ℕ
ambiguous_says p v = cond (ambiguous_of v) (printed (bytes "(ambiguous (# #))\n") (cell_numbers (cell_of p) [])) []

unfoldable pub text_in : List RoledStats → List Written → List ℕ
text_in outcomes w = heading ++ (pass_lines outcomes ++ (role_lines outcomes ++ (told cell_says w ++ (told hole_says w ++ told ambiguous_says w))))
