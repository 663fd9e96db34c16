-- The labelled cells of a sheet: their places in rising order, so by i, then j, and how many there are. The sheet's first
-- 16,384 places are looked at. Definitions only.
use Rattle.std.specs.Prelude.{◌≡◌, Bool, true, false, cond, ◌||◌, List, [], ◌∷◌, ◌++◌, ℕ, zero, suc, ◌+◌, ◌<◌, ◌≤◌, length, get_or, Option, Some, None}
use Rattle.sizes.specs.Sizes.{place_count}
use Rattle.sheet.specs.Cells.{OnSheet, cell_of}
use Rattle.sheet.specs.Words.{label_of, label_at}
use Rattle.sheet.specs.declared.Cell.{Cell}

-- ---- tests of the numbers below a number

-- the numbers below n that pass, rising
unfoldable pub passing : (ℕ → Bool) → ℕ → List ℕ
passing f zero = []
passing f (suc n) = passing f n ++ cond (f n) (n ∷ []) []

-- some number below n passes
unfoldable pub any_below : ℕ → (ℕ → Bool) → Bool
any_below zero f = false
any_below (suc n) f = f n || any_below n f

-- a list in which each number is above all before it
pub record Rising (l : List ℕ) : Type 0 where
  pub rises : (a b : ℕ) → a < b → b < length l → get_or l a 0 < get_or l b 0

-- ---- labels

unfoldable pub names_corner : Option ℕ → Bool
names_corner None = false
names_corner (Some k) = true

-- a word that names a corner
unfoldable pub is_labelled : ℕ → Bool
is_labelled w = names_corner (label_of w)

-- the cell of a place whose word names a corner, of a place with its word
abbrev pub labelled_cell : ℕ × ℕ → Option Cell
labelled_cell e = cond (is_labelled e.1) (Some (cell_of e.0)) None

-- a cell of the sheet that holds a corner
pub record LabelledCell (sheet : List ℕ) (c : Cell) : Type 0 where
  pub corner : ℕ
  pub holds : label_at sheet c ≡ Some corner

-- the labelled places below n, and all of them
abbrev pub labelled_below : List ℕ → ℕ → List ℕ
labelled_below sheet n = passing (λ p. is_labelled (get_or sheet p 0)) n

unfoldable pub labelled_places : List ℕ → List ℕ
labelled_places sheet = labelled_below sheet place_count

-- the number of labels
unfoldable pub label_count : List ℕ → ℕ
label_count sheet = length (labelled_places sheet)

-- a count with one more word
unfoldable pub counted : ℕ → ℕ → ℕ
counted n w = cond (is_labelled w) (n + 1) n

-- a corner k to be attached at a cell: the sheet is long enough, the cell is on it and unlabelled, and a word holds the corner
pub record Attaching (sheet : List ℕ) (c : Cell) (k : ℕ) : Type 0 where
  pub long : place_count ≤ length sheet
  pub on : OnSheet c
  pub bare : label_at sheet c ≡ None
  pub corner_fits : k < 16383

-- two sheets with the same labels, whatever their marks: the same places hold the same corners
pub record SameLabels (sheet after : List ℕ) : Type 0 where
  pub same_label : (p : ℕ) → p < place_count → label_of (get_or after p 0) ≡ label_of (get_or sheet p 0)
