-- The kinds of a frame's lines by one table (document 01, "Frame and result"): a kind is a row. Definitions only.
use Rattle.std.specs.Prelude.{Bool, true, false, cond, List, [], ◌∷◌, ℕ, ◌+◌, ◌-◌, ltb, eqb, get_or, take, drop, Option, None, Some}
use Rattle.binary32.specs.declared.ranges.Quantity.{Quantity}
use Rattle.refusal.specs.declared.Refusal.{Refusal}
use Rattle.roles.specs.declared.Role.{Role}
use Rattle.line_form.specs.Integers.{offset}
use Rattle.line_form.specs.Forms.{bytes}
use Rattle.frame_line.specs.declared.Kind.{Kind}
use Rattle.frame_line.specs.declared.OpeningKind.{OpeningKind}
use Rattle.frame_line.specs.declared.PassKind.{PassKind}
use Rattle.frame_line.specs.declared.Sort.{Sort}

-- "Lines, in order: frame, cell, axes (of i, then of j), band, corners (position, pitch; numbered from 0), labels (corner, cell), passes"; and of
-- document 02, 1/14: "After the labels a frame may hold lines `(shade n k)`, corner n having kind k, 0 or 1", and 3/14: "A line `(patch)` before the
-- first shade or pass opens a second set of labels .. A second `(patch)` is 1"; and 6/14: "One line `(as dealer)`, `(as depot)` or `(as plant)` may
-- stand right before any pass .. After it anything but a pass is number 1, as is the end".
-- A row: for each stage before the line, the stage behind it, or . where the line may not come; a letter for each of its numbers; its form.
-- The stages: 0 to 3 frame, cell, axes, band must come; 4 corners; 5 labels; 6 labels of the second set; 7 shades; 8 passes;
-- 9 an as line stands, and a pass must come.
unfoldable pub rows : List (List ℕ)
rows =
    bytes "1......... ..... (frame 1)\n"
    ∷ bytes ".2........ c.... (cell %)\n"
    ∷ bytes "..3....... aaaa. (axes (% %) (% %))\n"
    ∷ bytes "...4...... b.... (band %)\n"
    ∷ bytes "....4..... xxp.. (corner (% %) %)\n"
    ∷ bytes "....556... nii.. (label # (# #))\n"
    ∷ bytes "....888888 ..... (grow)\n"
    ∷ bytes "....888888 mfm.. (grow % % %)\n"
    ∷ bytes "....888888 ..... (fill)\n"
    ∷ bytes "....888888 mfr.. (fill % % #)\n"
    ∷ bytes "....888888 mfrmd (local % % # % #)\n"
    ∷ bytes "....7777.. nk... (shade # #)\n"
    ∷ bytes "....66.... ..... (patch)\n"
    ∷ bytes "....99999. ..... (as plant)\n"
    ∷ bytes "....99999. ..... (as depot)\n"
    ∷ bytes "....99999. ..... (as dealer)\n"
    ∷ []

abbrev pub row_count : ℕ
row_count = 16

abbrev pub stage_count : ℕ
stage_count = 10

abbrev pub letters_from : ℕ
letters_from = stage_count + 1

abbrev pub form_from : ℕ
form_from = stage_count + 7

unfoldable pub row_at : ℕ → List ℕ
row_at k = get_or rows k []

-- the kinds of the rows
abbrev pub kinds : List Kind
kinds =
    Kind.Opening OpeningKind.Frame
    ∷ Kind.Opening OpeningKind.CellSize
    ∷ Kind.Opening OpeningKind.Axes
    ∷ Kind.Opening OpeningKind.Band
    ∷ Kind.Corner
    ∷ Kind.Label
    ∷ Kind.Pass PassKind.BareGrow
    ∷ Kind.Pass PassKind.Grow
    ∷ Kind.Pass PassKind.BareFill
    ∷ Kind.Pass PassKind.Fill
    ∷ Kind.Pass PassKind.Local
    ∷ Kind.Shade
    ∷ Kind.Patch
    ∷ Kind.As Role.Plant
    ∷ Kind.As Role.Depot
    ∷ Kind.As Role.Dealer
    ∷ []

unfoldable pub kind_at : ℕ → Kind
kind_at k = get_or kinds k (Kind.Opening OpeningKind.Frame)

-- ---- the form of a row

unfoldable pub form_at : ℕ → List ℕ
form_at k = drop form_from (row_at k)

-- ---- the order of lines

-- byte 46 is . and 48 is the digit 0
abbrev pub turn_by : ℕ → Option ℕ
turn_by b = cond (ltb b 48) None (Some (b - 48))

unfoldable pub turn_at : ℕ → ℕ → Option ℕ
turn_at stage k = turn_by (get_or (take stage_count (row_at k)) stage 46)

-- "The first four lines must stand; the others may be none"; and after an as line "the end" is number 1
abbrev pub ends : List Bool
ends = false ∷ false ∷ false ∷ false ∷ true ∷ true ∷ true ∷ true ∷ true ∷ false ∷ []

unfoldable pub may_end : ℕ → Bool
may_end stage = get_or ends stage false

-- ---- the numbers of a row

-- "Ranges, by value": a axis part, b band, c cell, f factor, m multiple (search, boundary, residual), p pitch, x position; integers as they are
-- held, `offset` higher: d depth 0 to 4, r rounds 0 to 64, both else 3; i a cell's i or j, -64 to 63, else 4; n a corner's number, else 5; and
-- k a shade's kind: "a k other than 0 or 1 is number 1"
abbrev pub letters : List ℕ
letters = bytes "abcdfikmnprx"

abbrev pub sorts : List Sort
sorts =
    Sort.Float Quantity.AxisPart
    ∷ Sort.Float Quantity.Band
    ∷ Sort.Float Quantity.CellSize
    ∷ Sort.Whole Refusal.OutOfRange offset (offset + 4)
    ∷ Sort.Float Quantity.Factor
    ∷ Sort.Whole Refusal.OffSheet (offset - 64) (offset + 63)
    ∷ Sort.Whole Refusal.Malformed offset (offset + 1)
    ∷ Sort.Float Quantity.Multiple
    ∷ Sort.Corner
    ∷ Sort.Float Quantity.Pitch
    ∷ Sort.Whole Refusal.OutOfRange offset (offset + 64)
    ∷ Sort.Float Quantity.Position
    ∷ []

-- any other letter stands for no number
abbrev pub sort_among : List ℕ → List Sort → ℕ → Option Sort
sort_among [] ss letter = None
sort_among (l ∷ ls) [] letter = None
sort_among (l ∷ ls) (s ∷ ss) letter = cond (eqb letter l) (Some s) (sort_among ls ss letter)

unfoldable pub sort_of : ℕ → Option Sort
sort_of letter = sort_among letters sorts letter

abbrev pub letters_at : ℕ → List ℕ
letters_at k = take 5 (drop letters_from (row_at k))

unfoldable pub sort_at : ℕ → ℕ → Option Sort
sort_at k m = sort_of (get_or (letters_at k) m 46)
