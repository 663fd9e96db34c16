-- Laws of the labelled cells of a sheet: a cell is labelled exactly if its place is listed; the places rise; what marks keep
-- and what attaching a corner adds; the count, by a walk over the places that hold something. Assumes nothing.
use Rattle.std.specs.Prelude.{Option, Some, None}
use mathlib.Core.Path.{◌≡◌, refl, sym, ap, ◌∙◌, subst}
use mathlib.Core.Bool.{true, false}
use mathlib.Core.List.{List, map, Memᴰ}
use mathlib.Core.Logic.{◌⊎◌, inl, inr}
use Prim.Native.Nat.{ℕ, ◌+◌, ◌<◌, ◌≤◌}
use native.Mathlib.Decide.{ℕ_discrete}
use native.Mathlib.Omega.{arith}
use borrow.Author.Tests.{lt-ltb}
use lib.ListN.{length, get_or}
use Rattle.sheet.specs.Cells.{OnSheet, place_of, cell_of, earlier}
use Rattle.sheet.specs.Words.{Content, label_of_number, label_of, word_at, label_at, hole_at, ambiguous_at, attached, hole_marked, ambiguous_marked, marks_cleared, empty_sheet}
use Rattle.sheet.proofs.Laws.{place_in, cell_on_lem, place_cell, place_one, place_rises}
use Rattle.sheet.specs.Blank.{written_from}
use Rattle.sheet.proofs.Blank.{blank_label}
use Rattle.sheet.proofs.Words.{label_on, labelled_on_lem, Changed, attached_changes, hole_changes, ambiguous_changes, cleared_changes, label_here, label_else, empty_word}
use Rattle.sheet.specs.declared.Cell.{Cell}
use Rattle.labels.specs.Labelled.{Rising, names_corner, is_labelled, LabelledCell, labelled_places, label_count, Attaching, SameLabels}
use Rattle.std.specs.List.{filter}
use Rattle.std.proofs.lemmas.List.{length-map}
use Rattle.labels.proofs.Written.{written_passing}
use Rattle.labels.proofs.Below.{no_both, in_passing, passing_in, passing_ext, passing_one_more, passing_below, passing_rises}

-- ---- a word

pub corner_labelled : (w k : ℕ) → label_of w ≡ Some k → is_labelled w ≡ true
unfolding is_labelled names_corner
corner_labelled w k e = ap names_corner e

pub none_unlabelled : (w : ℕ) → label_of w ≡ None → is_labelled w ≡ false
unfolding is_labelled names_corner
none_unlabelled w e = ap names_corner e

-- a place that holds nothing
pub blank_unlabelled : {w : ℕ} → w ≡ 0 → is_labelled w ≡ false
blank_unlabelled {w} e = none_unlabelled w (blank_label e)

-- the corner that a word names
pub record Named (w : ℕ) : Type 0 where
  pub corner : ℕ
  pub named : label_of w ≡ Some corner

pub labelled_names : (w : ℕ) → is_labelled w ≡ true → Named w
unfolding is_labelled names_corner
labelled_names w e = go (label_of w) refl e
  where
    go : (l : Option ℕ) → label_of w ≡ l → names_corner l ≡ true → Named w
    go None f h = absurd (no_both false h refl)
    go (Some k) f h = record { corner = k; named = f }

pub unlabelled_none : (w : ℕ) → is_labelled w ≡ false → label_of w ≡ None
unfolding is_labelled names_corner
unlabelled_none w e = go (label_of w) e
  where
    go : (l : Option ℕ) → names_corner l ≡ false → l ≡ None
    go None h = refl
    go (Some k) h = absurd (no_both true refl h)

-- ---- places and cells

-- a place is listed exactly if it is below 16384 and labelled
pub place_listed : (sheet : List ℕ) (p : ℕ) → p < 16384 → is_labelled (get_or sheet p 0) ≡ true → Memᴰ p (labelled_places sheet)
unfolding labelled_places
place_listed sheet p h e = in_passing (λ q. is_labelled (get_or sheet q 0)) 16384 p h e

pub listed_place : (sheet : List ℕ) (p : ℕ) → Memᴰ p (labelled_places sheet) → (p < 16384) × (is_labelled (get_or sheet p 0) ≡ true)
unfolding labelled_places
listed_place sheet p m = passing_in (λ q. is_labelled (get_or sheet q 0)) 16384 p m

-- the places rise
pub places_rise : (sheet : List ℕ) → Rising (labelled_places sheet)
unfolding labelled_places
places_rise sheet = passing_rises (λ q. is_labelled (get_or sheet q 0)) 16384

pub places_in_lem : (sheet : List ℕ) (a : ℕ) → a < length (labelled_places sheet) → get_or (labelled_places sheet) a 0 < 16384
unfolding labelled_places
places_in_lem sheet a h = passing_below (λ q. is_labelled (get_or sheet q 0)) 16384 a h

-- so their cells stand by i, then j
pub cells_rise : (sheet : List ℕ) (a b : ℕ) → a < b → b < length (labelled_places sheet) → earlier (cell_of (get_or (labelled_places sheet) a 0)) (cell_of (get_or (labelled_places sheet) b 0)) ≡ true
cells_rise sheet a b h k =
    let m = places_in_lem sheet a (omega arith) in
    let n = places_in_lem sheet b k in
    sym (place_rises (cell_of (get_or (labelled_places sheet) a 0)) (cell_of (get_or (labelled_places sheet) b 0)) (cell_on_lem _ m) (cell_on_lem _ n))
    ∙ rw (place_cell _ m, place_cell _ n) (lt-ltb _ _ ((places_rise sheet).rises a b h k))

-- what a place below 16384 holds is what its cell holds
pub label_of_place : (sheet : List ℕ) (p : ℕ) → p < 16384 → label_at sheet (cell_of p) ≡ label_of (get_or sheet p 0)
label_of_place sheet p h = label_on sheet (cell_of p) (cell_on_lem p h) ∙ ap (λ (q : ℕ). label_of (get_or sheet q 0)) (place_cell p h)

-- a cell is labelled exactly if its place is labelled
pub cell_labelled : (sheet : List ℕ) (p : ℕ) → p < 16384 → is_labelled (get_or sheet p 0) ≡ true → LabelledCell sheet (cell_of p)
cell_labelled sheet p h e =
    let n = labelled_names (get_or sheet p 0) e in
    record { corner = n.corner; holds = label_of_place sheet p h ∙ n.named }

module _ (sheet : List ℕ) (c : Cell) (l : LabelledCell sheet c) where
  pub labelled_cell_on : OnSheet c
  labelled_cell_on = labelled_on_lem sheet c l.corner l.holds

  pub labelled_word : is_labelled (word_at sheet c) ≡ true
  labelled_word = corner_labelled (word_at sheet c) l.corner (sym (label_on sheet c labelled_cell_on) ∙ l.holds)

  pub cell_listed : Memᴰ (place_of c) (labelled_places sheet)
  cell_listed = place_listed sheet (place_of c) (place_in c labelled_cell_on) labelled_word

pub listed_cell : (sheet : List ℕ) (p : ℕ) → Memᴰ p (labelled_places sheet) → LabelledCell sheet (cell_of p)
listed_cell sheet p m = let h = listed_place sheet p m in cell_labelled sheet p h.0 h.1

-- ---- sheets with the same labels

-- the same places are labelled
pub record SamePlaces (sheet after : List ℕ) : Type 0 where
  pub same_place : (p : ℕ) → p < 16384 → is_labelled (get_or after p 0) ≡ is_labelled (get_or sheet p 0)

pub labels_places : {sheet after : List ℕ} → SameLabels sheet after → SamePlaces sheet after
unfolding is_labelled
labels_places s = record { same_place = λ p h. ap names_corner (s.same_label p h) }

pub same_places : (sheet after : List ℕ) → SamePlaces sheet after → labelled_places after ≡ labelled_places sheet
unfolding labelled_places
same_places sheet after s = passing_ext (λ p. is_labelled (get_or after p 0)) (λ p. is_labelled (get_or sheet p 0)) 16384 s.same_place

pub same_count : (sheet after : List ℕ) → SamePlaces sheet after → label_count after ≡ label_count sheet
unfolding label_count
same_count sheet after s = ap length (same_places sheet after s)

-- ---- marks keep every label

pub changed_labels : {sheet after : List ℕ} {c : Cell} {content : Content} → Changed sheet after c content → OnSheet c → content.label ≡ label_at sheet c → SameLabels sheet after
changed_labels {sheet} {after} {c} ch on e = record { same_label = λ p h. go p (ℕ_discrete p (place_of c)) }
  where
    go : (p : ℕ) → Dec (p ≡ place_of c) → label_of (get_or after p 0) ≡ label_of (get_or sheet p 0)
    go p (yes d) = rw d (ch.label_word ∙ e ∙ label_on sheet c on)
    go p (no d) = ap label_of (ch.other_word p d)

module _ (sheet : List ℕ) (c : Cell) (long : 16384 ≤ length sheet) (on : OnSheet c) where
  pub hole_keeps : SameLabels sheet (hole_marked sheet c)
  hole_keeps = changed_labels (hole_changes sheet c long on) on refl

  pub ambiguous_keeps : SameLabels sheet (ambiguous_marked sheet c)
  ambiguous_keeps = changed_labels (ambiguous_changes sheet c long on) on refl

  pub cleared_keeps : SameLabels sheet (marks_cleared sheet c)
  cleared_keeps = changed_labels (cleared_changes sheet c long on) on refl

-- ---- a corner attached at a cell

module _ (sheet : List ℕ) (c : Cell) (k : ℕ) (long : 16384 ≤ length sheet) (on : OnSheet c) (fits : k < 16383) where
  put : Changed sheet (attached sheet c k) c (record { label = Some k; hole = hole_at sheet c; ambiguous = ambiguous_at sheet c })
  put = attached_changes sheet c long on k fits

  -- the labelled cells are those before it and this one
  pub put_new : LabelledCell (attached sheet c k) c
  put_new = record { corner = k; holds = label_here put on }

  at_place : (d : Cell) → OnSheet d → place_of d ≡ place_of c → d ≡ c
  at_place d h e = place_one d c h on e

  pub put_still : (d : Cell) → LabelledCell sheet d → LabelledCell (attached sheet c k) d
  put_still d l = go (ℕ_discrete (place_of d) (place_of c))
    where
      go : Dec (place_of d ≡ place_of c) → LabelledCell (attached sheet c k) d
      go (yes e) = subst (LabelledCell (attached sheet c k)) (sym (at_place d (labelled_cell_on sheet d l) e)) put_new
      go (no e) = record { corner = l.corner; holds = label_else put on d (λ q. e (ap place_of q)) ∙ l.holds }

  pub put_cases : (d : Cell) → LabelledCell (attached sheet c k) d → (d ≡ c) ⊎ LabelledCell sheet d
  put_cases d l = go (ℕ_discrete (place_of d) (place_of c))
    where
      go : Dec (place_of d ≡ place_of c) → (d ≡ c) ⊎ LabelledCell sheet d
      go (yes e) = inl (at_place d (labelled_cell_on (attached sheet c k) d l) e)
      go (no e) = inr (record { corner = l.corner; holds = sym (label_else put on d (λ q. e (ap place_of q))) ∙ l.holds })

-- ---- a corner attached at an unlabelled cell

module _ {sheet : List ℕ} {c : Cell} {k : ℕ} (a : Attaching sheet c k) where
  changes : Changed sheet (attached sheet c k) c (record { label = Some k; hole = hole_at sheet c; ambiguous = ambiguous_at sheet c })
  changes = put sheet c k a.long a.on a.corner_fits

  pub label_before : label_of (get_or sheet (place_of c) 0) ≡ None
  label_before = sym (label_on sheet c a.on) ∙ a.bare

  pub label_after : label_of (get_or (attached sheet c k) (place_of c) 0) ≡ Some k
  label_after = changes.label_word

  pub word_else : (p : ℕ) → (p ≡ place_of c → ⊥) → get_or (attached sheet c k) p 0 ≡ get_or sheet p 0
  word_else = changes.other_word

  -- the labelled cells are those before it and the new one
  pub labelled_new : LabelledCell (attached sheet c k) c
  labelled_new = put_new sheet c k a.long a.on a.corner_fits

  pub labelled_still : (d : Cell) → LabelledCell sheet d → LabelledCell (attached sheet c k) d
  labelled_still = put_still sheet c k a.long a.on a.corner_fits

  pub labelled_cases : (d : Cell) → LabelledCell (attached sheet c k) d → (d ≡ c) ⊎ LabelledCell sheet d
  labelled_cases = put_cases sheet c k a.long a.on a.corner_fits

  -- one label more
  pub count_attached : label_count (attached sheet c k) ≡ label_count sheet + 1
  unfolding label_count labelled_places
  count_attached =
      passing_one_more (λ p. is_labelled (get_or sheet p 0)) (λ p. is_labelled (get_or (attached sheet c k) p 0)) 16384 (place_of c) (place_in c a.on)
      (none_unlabelled _ label_before) (corner_labelled _ k label_after) (λ q h e. ap is_labelled (word_else q e))

-- ---- the empty sheet

pub empty_unlabelled : (c : Cell) → LabelledCell empty_sheet c → ⊥
unfolding is_labelled names_corner label_of label_of_number
empty_unlabelled c l = no_both true refl (sym (labelled_word empty_sheet c l) ∙ ap is_labelled (empty_word (place_of c)))

-- ---- the labelled places, by a walk over those that hold something

pub labels_walked : (sheet : List ℕ) → map (λ e. e.0) (filter (λ e. is_labelled e.1) (written_from sheet 0)) ≡ labelled_places sheet
unfolding labelled_places
labels_walked sheet = written_passing sheet (λ e. is_labelled e.1) (λ p. blank_unlabelled refl)

pub count_walked : (sheet : List ℕ) → length (filter (λ e. is_labelled e.1) (written_from sheet 0)) ≡ label_count sheet
unfolding label_count
count_walked sheet = sym (length-map _ (λ e. e.0)) ∙ ap length (labels_walked sheet)
