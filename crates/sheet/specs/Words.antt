-- What a place of the sheet holds, "a corner or none, a hole mark, an ambiguous mark", as a word of 16 bits: the low 14 bits
-- are 0 for no corner or the corner's number plus 1, the next bit is the hole mark and the top bit the ambiguous mark.
-- Then the sheet, a list of such words by place, read and changed at a cell. Definitions only.
use Rattle.std.specs.Prelude.{Bool, true, false, cond, List, ℕ, zero, suc, ◌+◌, ◌*◌, ◌/◌, ◌%◌, ◌≤◌, eqb, length, get_or, set, replicate, Option, Some, None}
use Rattle.sheet.specs.Cells.{on_sheet, OnSheet, place_of}
use Rattle.sheet.specs.declared.Cell.{Cell}

-- what a place holds
pub record Content : Type 0 where
  pub label : Option ℕ
  pub hole : Bool
  pub ambiguous : Bool

-- 0 is no corner, and k + 1 the corner k
unfoldable pub label_of_number : ℕ → Option ℕ
label_of_number zero = None
label_of_number (suc k) = Some k

unfoldable pub number_of_label : Option ℕ → ℕ
number_of_label None = 0
number_of_label (Some k) = k + 1

-- a mark as a bit
unfoldable pub bit_of : Bool → ℕ
bit_of true = 1
bit_of false = 0

-- the low 14 bits, the bit above them, the top bit
unfoldable pub label_of : ℕ → Option ℕ
label_of w = label_of_number (w % 16384)

unfoldable pub hole_of : ℕ → Bool
hole_of w = eqb (w / 16384 % 2) 1

unfoldable pub ambiguous_of : ℕ → Bool
ambiguous_of w = eqb (w / 32768) 1

-- a word's content, and a content's word
abbrev pub content_of : ℕ → Content
content_of w = record { label = label_of w; hole = hole_of w; ambiguous = ambiguous_of w }

unfoldable pub word_of : Content → ℕ
word_of c = number_of_label c.label + bit_of c.hole * 16384 + bit_of c.ambiguous * 32768

-- the word with a corner, both marks kept
abbrev pub with_label : ℕ → ℕ → ℕ
with_label w k = word_of (record { label = Some k; hole = hole_of w; ambiguous = ambiguous_of w })

-- the word with the hole mark, the rest kept
abbrev pub with_hole : ℕ → ℕ
with_hole w = word_of (record { label = label_of w; hole = true; ambiguous = ambiguous_of w })

-- the word with the ambiguous mark, the rest kept
abbrev pub with_ambiguous : ℕ → ℕ
with_ambiguous w = word_of (record { label = label_of w; hole = hole_of w; ambiguous = true })

-- the word with neither mark, the label kept
abbrev pub without_marks : ℕ → ℕ
without_marks w = word_of (record { label = label_of w; hole = false; ambiguous = false })

-- the word at a cell's place
abbrev pub word_at : List ℕ → Cell → ℕ
word_at sheet c = get_or sheet (place_of c) 0

-- what a cell holds; nothing off the sheet
unfoldable pub label_at : List ℕ → Cell → Option ℕ
label_at sheet c = cond (on_sheet c) (label_of (word_at sheet c)) None

unfoldable pub hole_at : List ℕ → Cell → Bool
hole_at sheet c = cond (on_sheet c) (hole_of (word_at sheet c)) false

unfoldable pub ambiguous_at : List ℕ → Cell → Bool
ambiguous_at sheet c = cond (on_sheet c) (ambiguous_of (word_at sheet c)) false

-- the sheet with a corner attached to a cell; with a cell marked as a hole; marked as ambiguous; with both marks cleared
unfoldable pub attached : List ℕ → Cell → ℕ → List ℕ
attached sheet c k = set sheet (place_of c) (with_label (word_at sheet c) k)

unfoldable pub hole_marked : List ℕ → Cell → List ℕ
hole_marked sheet c = set sheet (place_of c) (with_hole (word_at sheet c))

unfoldable pub ambiguous_marked : List ℕ → Cell → List ℕ
ambiguous_marked sheet c = set sheet (place_of c) (with_ambiguous (word_at sheet c))

unfoldable pub marks_cleared : List ℕ → Cell → List ℕ
marks_cleared sheet c = set sheet (place_of c) (without_marks (word_at sheet c))

-- no corners and no marks
unfoldable pub empty_sheet : List ℕ
empty_sheet = replicate 16384 0

-- a cell on a sheet of at least 16,384 places
pub record SheetCell (sheet : List ℕ) (c : Cell) : Type 0 where
  pub long : 16384 ≤ length sheet
  pub on : OnSheet c
