-- A line as its row and its numbers: printed by the row's form, read by the first row whose form a text has; and what a line of each kind
-- says. Definitions only.
use Rattle.std.specs.Prelude.{◌≡◌, List, [], ◌∷◌, ℕ, zero, suc, ◌<◌, ℤ, pos, drop}
use Rattle.sheet.specs.declared.Cell.{Cell}
use Rattle.line_form.specs.Forms.{Number, bits, whole, printed, Fitted, misfit, fitted, fit_of, Suits}
use Rattle.frame_line.specs.Table.{rows, row_count, form_from, form_at, kind_at}
use Rattle.frame_line.specs.declared.Kind.{Kind}
use Rattle.frame_line.specs.declared.PassKind.{PassKind}

pub record Line : Type 0 where
  pub row : ℕ
  pub numbers : List Number

abbrev pub kind_of : Line → Kind
kind_of l = kind_at l.row

-- a line of the table: it has a row, and the numbers that the row's form has room for
pub record Proper (l : Line) : Type 0 where
  pub few : l.row < row_count
  pub suits : Suits (form_at l.row) l.numbers

-- ---- printed

unfoldable pub line_text : Line → List ℕ
line_text l = printed (form_at l.row) l.numbers

-- ---- read

-- a well-formed line, or none
pub data LineRead : Type 0 where
  ill_formed : LineRead
  line : Line → LineRead

abbrev pub or_else : ℕ → Fitted → LineRead → LineRead
or_else k misfit rest = rest
or_else k (fitted ns) rest = line (record { row = k; numbers = ns })

-- by row k alone
abbrev pub read_row : ℕ → List ℕ → LineRead
read_row k text = or_else k (fit_of (form_at k) text) ill_formed

-- the rows from k on
unfoldable pub first_fit : ℕ → List (List ℕ) → List ℕ → LineRead
first_fit k [] text = ill_formed
first_fit k (r ∷ rs) text = or_else k (fit_of (drop form_from r) text) (first_fit (suc k) rs text)

unfoldable pub read_line : List ℕ → LineRead
read_line text = first_fit 0 rows text

-- ---- the laws, proved in proofs/

-- reading what was printed gives the line back
abbrev pub LineReadsBack : Type 0
LineReadsBack = (l : Line) → Proper l → read_line (line_text l) ≡ line l

-- printing what was read gives the text back, and the line is one of the table
pub record LinePrintsBack (text : List ℕ) (l : Line) : Type 0 where
  pub text_again : text ≡ line_text l
  pub proper : Proper l

-- ---- what a line says, by its kind; floats as their bits

-- the k-th number, as bits or as an integer
unfoldable pub bits_at : ℕ → List Number → ℕ
bits_at k [] = 0
bits_at zero (bits b ∷ ns) = b
bits_at zero (whole z ∷ ns) = 0
bits_at (suc k) (n ∷ ns) = bits_at k ns

unfoldable pub whole_at : ℕ → List Number → ℤ
whole_at k [] = pos 0
whole_at zero (bits b ∷ ns) = pos 0
whole_at zero (whole z ∷ ns) = z
whole_at (suc k) (n ∷ ns) = whole_at k ns

-- "axes (of i, then of j)"
pub record Axes : Type 0 where
  pub ix : ℕ
  pub iy : ℕ
  pub jx : ℕ
  pub jy : ℕ

abbrev pub axes_line_of : List Number → Axes
axes_line_of ns = record { ix = bits_at 0 ns; iy = bits_at 1 ns; jx = bits_at 2 ns; jy = bits_at 3 ns }

-- "corners (position, pitch; numbered from 0)"
pub record CornerLine : Type 0 where
  pub x : ℕ
  pub y : ℕ
  pub pitch : ℕ

abbrev pub corner_line_of : List Number → CornerLine
corner_line_of ns = record { x = bits_at 0 ns; y = bits_at 1 ns; pitch = bits_at 2 ns }

-- "labels (corner, cell)"
pub record LabelLine : Type 0 where
  pub corner : ℤ
  pub cell : Cell

abbrev pub label_line_of : List Number → LabelLine
label_line_of ns = record { corner = whole_at 0 ns; cell = record { i = whole_at 1 ns; j = whole_at 2 ns } }

-- "lines `(shade n k)`, corner n having kind k"
pub record ShadeLine : Type 0 where
  pub corner : ℤ
  pub kind : ℤ

abbrev pub shade_line_of : List Number → ShadeLine
shade_line_of ns = record { corner = whole_at 0 ns; kind = whole_at 1 ns }

-- `(grow search factor boundary)`, `(fill search factor rounds)`, `(local search factor rounds residual depth)`, and the bare ones
pub data PassLine : Type 0 where
  bare_grow_holds : PassLine
  grow : (search factor boundary : ℕ) → PassLine
  bare_fill : PassLine
  fill : (search factor : ℕ) (rounds : ℤ) → PassLine
  local : (search factor : ℕ) (rounds : ℤ) (residual : ℕ) (depth : ℤ) → PassLine

-- the numbers of the line `(grow search factor boundary)`, as their bits
pub record GrowNumbers : Type 0 where
  pub search : ℕ
  pub factor : ℕ
  pub boundary : ℕ

-- "Bare `(grow)` means 0.35 1.5" of 01, and of 02, 2/14: "Bare `(grow)` now means a boundary multiple of 1.25"
abbrev pub bare_grow : GrowNumbers
bare_grow = record { search = 0x3eb3_3333; factor = 0x3fc0_0000; boundary = 0x3fa0_0000 }

-- its kind
unfoldable pub pass_kind : PassLine → PassKind
pass_kind bare_grow_holds = PassKind.BareGrow
pass_kind (grow search factor boundary) = PassKind.Grow
pass_kind bare_fill = PassKind.BareFill
pass_kind (fill search factor rounds) = PassKind.Fill
pass_kind (local search factor rounds residual depth) = PassKind.Local

unfoldable pub pass_line_of : PassKind → List Number → PassLine
pass_line_of PassKind.BareGrow ns = bare_grow_holds
pass_line_of PassKind.Grow ns = grow (bits_at 0 ns) (bits_at 1 ns) (bits_at 2 ns)
pass_line_of PassKind.BareFill ns = bare_fill
pass_line_of PassKind.Fill ns = fill (bits_at 0 ns) (bits_at 1 ns) (whole_at 2 ns)
pass_line_of PassKind.Local ns = local (bits_at 0 ns) (bits_at 1 ns) (whole_at 2 ns) (bits_at 3 ns) (whole_at 4 ns)
