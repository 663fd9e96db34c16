-- The text of a result (document 01, "Frame and result": `(result 1)`, "After the first line stand the pass lines as run. .. Then cells (cell,
-- corner), holes, `(ambiguous (i j))`, each by i, then j."; document 02, 1/14: `(unmatched count)` behind local's line; 7/14: the counts for each
-- role). Definitions only.
use Rattle.std.specs.Prelude.{Bool, true, false, cond, List, [], ◌∷◌, ◌++◌, ℕ, zero, suc, ◌+◌, ◌-◌, pos, ltb, length, get_or, Option, None, Some, Float}
use Rattle.std.specs.Float.{binary32}
use Rattle.std.specs.Float.Ieee.{to_bits}
use Rattle.sheet.specs.Cells.{cell_of}
use Rattle.sheet.specs.Words.{label_of, hole_of, ambiguous_of}
use Rattle.sheet.specs.declared.Cell.{Cell}
use Rattle.line_form.specs.Forms.{bytes, Number, bits, whole, printed}
use Rattle.passes.specs.declared.Counts.{Counts}
use Rattle.passes.specs.declared.GrowStats.{GrowStats}
use Rattle.passes.specs.declared.FillStats.{FillStats}
use Rattle.passes.specs.declared.LocalStats.{LocalStats}
use Rattle.passes.specs.declared.PassStats.{PassStats}
use Rattle.roles.specs.Roles.{role_numbered}
use Rattle.roles.specs.declared.Role.{Role}
use Rattle.role_counts.specs.RoleCounts.{RoledStats, sum_for}
use Rattle.role_counts.specs.declared.RoleCounts.{RoleCounts}
use Rattle.sizes.specs.Sizes.{place_count}
use Rattle.report_line.specs.Sizes.{role_line_count, sheet_lines, first_ambiguous, line_room}

abbrev pub count : ℕ → Number
count n = whole (pos n)

-- ---- pass lines: % is a float, # an integer

abbrev pub grow_form : Bool → List ℕ
grow_form true = bytes "(grow # # # # yes)\n"
grow_form false = bytes "(grow # # # # no)\n"

abbrev pub fill_form : Bool → List ℕ
fill_form true = bytes "(fill # # yes)\n"
fill_form false = bytes "(fill # # no)\n"

abbrev pub local_form : Bool → List ℕ
local_form true = bytes "(local # # # # # % yes)\n"
local_form false = bytes "(local # # # # # % no)\n"

-- no residual was recorded
abbrev pub bare_local_form : Bool → List ℕ
bare_local_form true = bytes "(local # # # # # none yes)\n"
bare_local_form false = bytes "(local # # # # # none no)\n"

-- attached, no candidate, ambiguous, edge
abbrev pub four_counts : Counts → List Number → List Number
four_counts c rest = count c.attached ∷ count c.rejected_no_candidate ∷ count c.rejected_ambiguous ∷ count c.rejected_edge ∷ rest

-- "Grow: attached, no candidate, ambiguous, edge, rim."
unfoldable pub grow_line : GrowStats → List ℕ
grow_line s = printed (grow_form s.rim) (four_counts s.counts [])

-- "Fill: added, rounds, rim."
unfoldable pub fill_line : FillStats → List ℕ
fill_line s = printed (fill_form s.rim) (count s.added ∷ count s.iterations ∷ [])

-- "Local: grow's four, rounds, largest residual or `none`, rim."
abbrev pub local_line_with : Option Float → LocalStats → List ℕ
local_line_with None s = printed (bare_local_form s.rim) (four_counts s.counts (count s.iterations ∷ []))
local_line_with (Some x) s = printed (local_form s.rim) (four_counts s.counts (count s.iterations ∷ bits (to_bits binary32 x) ∷ []))

unfoldable pub local_line : LocalStats → List ℕ
local_line s = local_line_with s.residual s

-- "if any shade stands, prints `(unmatched count)` after its line" (document 02, 1/14)
unfoldable pub unmatched_line : Option ℕ → List ℕ
unmatched_line None = []
unmatched_line (Some n) = printed (bytes "(unmatched #)\n") (count n ∷ [])

-- local's line, and behind it that of unmatched: together they count as one line
unfoldable pub local_lines : LocalStats → List ℕ
local_lines s = local_line s ++ unmatched_line s.unmatched

unfoldable pub pass_line : PassStats → List ℕ
pass_line (PassStats.Grow s) = grow_line s
pass_line (PassStats.Fill s) = fill_line s
pass_line (PassStats.Local s) = local_lines s

unfoldable pub pass_lines : List RoledStats → List ℕ
pass_lines [] = []
pass_lines (s ∷ ss) = pass_line s.stats ++ pass_lines ss

-- ---- the lines of the roles (document 02, 7/14): "print `(role name attached none ambiguous edge)` for plant, depot, dealer"

abbrev pub role_form : Role → List ℕ
role_form Role.Plant = bytes "(role plant # # # #)\n"
role_form Role.Depot = bytes "(role depot # # # #)\n"
role_form Role.Dealer = bytes "(role dealer # # # #)\n"

unfoldable pub role_line : Role → RoleCounts → List ℕ
role_line r c = printed (role_form r) (count c.attached ∷ count c.no_candidate ∷ count c.ambiguous ∷ count c.edge ∷ [])

-- the line of a role whose passes are among those that ran
unfoldable pub line_of_role : List RoledStats → Role → List ℕ
line_of_role outcomes r = role_line r (sum_for r outcomes)

unfoldable pub role_lines : List RoledStats → List ℕ
role_lines outcomes = line_of_role outcomes Role.Plant ++ (line_of_role outcomes Role.Depot ++ line_of_role outcomes Role.Dealer)

-- ---- the sheet's lines: that of a place, and none where the place has nothing to say

abbrev pub cell_numbers : Cell → List Number → List Number
cell_numbers c rest = whole c.i ∷ whole c.j ∷ rest

abbrev pub label_line : Cell → Option ℕ → List ℕ
label_line c None = []
label_line c (Some k) = printed (bytes "(cell (# #) #)\n") (cell_numbers c (count k ∷ []))

unfoldable pub cell_line : List ℕ → ℕ → List ℕ
cell_line sheet p = label_line (cell_of p) (label_of (get_or sheet p 0))

unfoldable pub hole_line : List ℕ → ℕ → List ℕ
hole_line sheet p = cond (hole_of (get_or sheet p 0)) (printed (bytes "(hole (# #))\n") (cell_numbers (cell_of p) [])) []

unfoldable pub ambiguous_line : List ℕ → ℕ → List ℕ
ambiguous_line sheet p = cond (ambiguous_of (get_or sheet p 0)) (printed (bytes "(ambiguous (# #))\n") (cell_numbers (cell_of p) [])) []

-- n lines from number k on
unfoldable pub lines_from : (ℕ → List ℕ) → ℕ → ℕ → List ℕ
lines_from line k zero = []
lines_from line k (suc n) = line k ++ lines_from line (suc k) n

-- "each by i, then j": rising places go by i, then j
abbrev pub all_places : (ℕ → List ℕ) → List ℕ
all_places line = lines_from line 0 place_count

-- ---- the whole text

abbrev pub heading : List ℕ
heading = bytes "(result 1)\n"

unfoldable pub sheet_text : List ℕ → List ℕ
sheet_text sheet = all_places (cell_line sheet) ++ (all_places (hole_line sheet) ++ all_places (ambiguous_line sheet))

-- "In every result, after the last pass line, with its unmatched line, and before the cells"
unfoldable pub result_text : List RoledStats → List ℕ → List ℕ
result_text outcomes sheet = heading ++ (pass_lines outcomes ++ (role_lines outcomes ++ sheet_text sheet))

-- ---- the same text line by line, to be written piece by piece: line 0 is the heading, then one line for each pass (local's two count as one), then
-- one for each role, then 16,384 lines each of cells, holes and ambiguous cells, most of them empty

abbrev pub pass_line_at : List RoledStats → ℕ → List ℕ
pass_line_at [] k = []
pass_line_at (s ∷ ss) zero = pass_line s.stats
pass_line_at (s ∷ ss) (suc k) = pass_line_at ss k

unfoldable pub sheet_line : List ℕ → ℕ → List ℕ
sheet_line sheet k =
    cond (ltb k place_count) (cell_line sheet k) (cond (ltb k first_ambiguous) (hole_line sheet (k - place_count)) (ambiguous_line sheet (k - first_ambiguous)))

unfoldable pub after_passes : List RoledStats → List ℕ → ℕ → List ℕ
after_passes outcomes sheet k = cond (ltb k role_line_count) (line_of_role outcomes (role_numbered k)) (sheet_line sheet (k - role_line_count))

abbrev pub after_heading : List RoledStats → List ℕ → ℕ → List ℕ
after_heading outcomes sheet k = cond (ltb k (length outcomes)) (pass_line_at outcomes k) (after_passes outcomes sheet (k - length outcomes))

unfoldable pub result_line : List RoledStats → List ℕ → ℕ → List ℕ
result_line outcomes sheet zero = heading
result_line outcomes sheet (suc k) = after_heading outcomes sheet k

-- how many such lines there are, with p passes
abbrev pub line_count : ℕ → ℕ
line_count p = suc (p + (role_line_count + sheet_lines))

-- the text from line k on; from line 0 on it is the whole text (`proofs/`: `from_the_start`)
unfoldable pub result_from : List RoledStats → List ℕ → ℕ → List ℕ
result_from outcomes sheet k = lines_from (result_line outcomes sheet) k (line_count (length outcomes) - k)

-- ---- a piece: whole lines from line k on, as long as 128 bytes are left before each

pub record Piece : Type 0 where
  pub text : List ℕ
  pub next : ℕ

abbrev pub ending : ℕ → Piece
ending k = record { text = []; next = k }

abbrev pub joined : List ℕ → Piece → Piece
joined text p = record { text = text ++ p.text; next = p.next }

-- a line that stands at the front, if there is room for any line
abbrev pub piece_with : Bool → ℕ → ℕ → List ℕ → (ℕ → Piece) → Piece
piece_with true k room text rest = ending k
piece_with false k room text rest = joined text (rest (room - length text))

-- at most n lines
unfoldable pub piece_of : (ℕ → List ℕ) → ℕ → ℕ → ℕ → Piece
piece_of line zero k room = ending k
piece_of line (suc n) k room = piece_with (ltb room line_room) k room (line k) (λ left. piece_of line n (suc k) left)

unfoldable pub result_piece : List RoledStats → List ℕ → ℕ → ℕ → Piece
result_piece outcomes sheet k room = piece_of (result_line outcomes sheet) (line_count (length outcomes) - k) k room
