-- A sheet of which only the written places are kept, each with its word: what is asked of a sheet, and how it changes. Definitions only.
use Rattle.std.specs.Prelude.{Bool, false, cond, ◌||◌, List, [], ◌∷◌, ◌++◌, ℕ, suc, ◌<◌, ◌≤◌, eqb, ltb, set, Option, None}
use Rattle.sizes.specs.Sizes.{place_count}
use Rattle.sheet.specs.Cells.{on_sheet, place_of}
use Rattle.sheet.specs.Words.{label_of, with_label, with_hole, with_ambiguous, without_marks, empty_sheet}
use Rattle.sheet.specs.Corners.{seen_through}
use Rattle.sheet.specs.declared.Cell.{Cell}
use Rattle.sheet.specs.declared.Corner.{Corner}
use Rattle.labels.specs.Labelled.{names_corner, is_labelled}
use Rattle.labels.specs.Used.{names}
use Rattle.labels.specs.Rim.{rim_at}

-- a place and its word
pub record Written : Type 0 where
  pub place : ℕ
  pub word : ℕ

abbrev pub written : ℕ → ℕ → Written
written p v = record { place = p; word = v }

-- places of the sheet from n on, rising
pub data Rise : ℕ → List Written → Type 0 where
  no_more : {n : ℕ} → Rise n []
  then : {n : ℕ} {e : Written} {es : List Written} → n ≤ e.place → e.place < place_count → Rise (suc e.place) es → Rise n (e ∷ es)

-- the sheet
unfoldable pub sheet_with : List Written → List ℕ
sheet_with [] = empty_sheet
sheet_with (e ∷ es) = set (sheet_with es) e.place e.word

-- ---- what is asked of it

-- the word at a place
unfoldable pub word_in : List Written → ℕ → ℕ
word_in [] p = 0
word_in (e ∷ es) p = cond (eqb p e.place) e.word (word_in es p)

-- what the written places say, one after the other
unfoldable pub told : (ℕ → ℕ → List ℕ) → List Written → List ℕ
told line [] = []
told line (e ∷ es) = line e.place e.word ++ told line es

-- one of the written places passes a test
unfoldable pub any_in : (ℕ → ℕ → Bool) → List Written → Bool
any_in test [] = false
any_in test (e ∷ es) = test e.place e.word || any_in test es

-- the label at a cell, whether it names a corner, and what is seen there
unfoldable pub label_in : List Written → Cell → Option ℕ
label_in w c = cond (on_sheet c) (label_of (word_in w (place_of c))) None

abbrev pub labelled_in : List Written → Cell → Bool
labelled_in w c = names_corner (label_in w c)

abbrev pub seen_in : (ℕ → Corner) → List Written → Cell → Option Corner
seen_in corner w c = seen_through corner (label_in w c)

-- the labelled places, rising
abbrev pub place_if : ℕ → ℕ → List ℕ
place_if p v = cond (is_labelled v) (p ∷ []) []

abbrev pub places_in : List Written → List ℕ
places_in w = told place_if w

-- whether the corner k is used, and whether the rim is reached
abbrev pub used_in : List Written → ℕ → Bool
used_in w k = any_in (λ p v. names k (label_of v)) w

abbrev pub rim_in : ℕ → List Written → Bool
rim_in depth w = any_in (λ p v. rim_at depth v p) w

-- ---- how it changes

-- a word put at a place
unfoldable pub put_in : List Written → ℕ → ℕ → List Written
put_in [] p v = written p v ∷ []
put_in (e ∷ es) p v = cond (ltb p e.place) (written p v ∷ e ∷ es) (cond (eqb p e.place) (written p v ∷ es) (e ∷ put_in es p v))

-- nothing is put past the sheet
unfoldable pub put : List Written → ℕ → ℕ → List Written
put w p v = cond (ltb p place_count) (put_in w p v) w

abbrev pub attached_in : List Written → Cell → ℕ → List Written
attached_in w c k = put w (place_of c) (with_label (word_in w (place_of c)) k)

abbrev pub hole_in : List Written → Cell → List Written
hole_in w c = put w (place_of c) (with_hole (word_in w (place_of c)))

abbrev pub ambiguous_in : List Written → Cell → List Written
ambiguous_in w c = put w (place_of c) (with_ambiguous (word_in w (place_of c)))

abbrev pub cleared_in : List Written → Cell → List Written
cleared_in w c = put w (place_of c) (without_marks (word_in w (place_of c)))
