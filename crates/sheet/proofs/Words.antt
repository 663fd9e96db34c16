-- Laws of words and of the sheet: a word is its content and back; what each of the four changes does at its cell, and that
-- it does nothing at any other. Assumes nothing.
use Rattle.std.specs.Prelude.{Option, Some, None}
use mathlib.Core.Path.{◌≡◌, refl, sym, ap, ◌∙◌, subst}
use mathlib.Core.Bool.{Bool, true, false, cond}
use mathlib.Core.List.{List}
use Prim.Native.Nat.{ℕ, zero, suc, ◌+◌, ◌*◌, ◌/◌, ◌%◌, ◌<◌, ◌≤◌}
use native.Mathlib.Omega.{arith}
use native.Mathlib.Numerals.{add-one}
use lib.Dec.{T, eqb}
use lib.ListN.{length, get_or, set, replicate, length-set, length-replicate}
use lib.Seq.{get_or-set_same, get_or-set_other}
use Rattle.sheet.specs.Cells.{on_sheet, OnSheet, place_of}
use Rattle.sheet.specs.Words.{Content, label_of_number, number_of_label, bit_of, label_of, hole_of, ambiguous_of, content_of, word_of, with_label, with_hole, with_ambiguous, without_marks, word_at, label_at, hole_at, ambiguous_at, attached, hole_marked, ambiguous_marked, marks_cleared, empty_sheet}
use Rattle.sheet.proofs.Laws.{place_in, place_one}
use Rattle.sheet.specs.declared.Cell.{Cell}

-- a test that holds is true
pub yes : (b : Bool) → T b → b ≡ true
yes true h = refl
yes false h = absurd h

-- ---- the parts of a word

bit_back : (b : ℕ) → b < 2 → bit_of (eqb b 1) ≡ b
unfolding bit_of
bit_back zero h = refl
bit_back (suc zero) h = refl
bit_back (suc (suc n)) h = absurd (omega arith)

bit_read : (t : Bool) → eqb (bit_of t) 1 ≡ t
unfolding bit_of
bit_read true = refl
bit_read false = refl

bit_in : (t : Bool) → bit_of t < 2
unfolding bit_of
bit_in true = omega arith
bit_in false = omega arith

number_back : (n : ℕ) → number_of_label (label_of_number n) ≡ n
unfolding number_of_label label_of_number
number_back zero = refl
number_back (suc k) = add-one k

label_back : (l : Option ℕ) → label_of_number (number_of_label l) ≡ l
unfolding number_of_label label_of_number
label_back None = refl
label_back (Some k) = rw add-one

-- the label of a word is one that a word holds
pub label_holds : (w : ℕ) → number_of_label (label_of w) < 16384
unfolding label_of
label_holds w = rw number_back (omega arith)

pub corner_holds : (k : ℕ) → k < 16383 → number_of_label (Some k) < 16384
unfolding number_of_label
corner_holds k h = omega arith

-- the content of a word below 2 ^ 16 has that word
pub word_back : (w : ℕ) → w < 65536 → word_of (content_of w) ≡ w
unfolding word_of label_of hole_of ambiguous_of
word_back w h = rw (number_back, bit_back (w / 16384 % 2) (omega arith), bit_back (w / 32768) (omega arith)) (omega arith)

-- the word of a content whose corner is below 16383 has that content
module _ (c : Content) (holds : number_of_label c.label < 16384) where
  pub label_read : label_of (word_of c) ≡ c.label
  unfolding word_of label_of
  label_read =
      let a = bit_in c.hole in
      let b = bit_in c.ambiguous in
      let e : (number_of_label c.label + bit_of c.hole * 16384 + bit_of c.ambiguous * 32768) % 16384 ≡ number_of_label c.label = omega arith in
      ap label_of_number e ∙ label_back c.label

  pub hole_read : hole_of (word_of c) ≡ c.hole
  unfolding word_of hole_of
  hole_read =
      let a = bit_in c.hole in
      let b = bit_in c.ambiguous in
      let e : (number_of_label c.label + bit_of c.hole * 16384 + bit_of c.ambiguous * 32768) / 16384 % 2 ≡ bit_of c.hole = omega arith in
      ap (λ (n : ℕ). eqb n 1) e ∙ bit_read c.hole

  pub ambiguous_read : ambiguous_of (word_of c) ≡ c.ambiguous
  unfolding word_of ambiguous_of
  ambiguous_read =
      let a = bit_in c.hole in
      let b = bit_in c.ambiguous in
      let e : (number_of_label c.label + bit_of c.hole * 16384 + bit_of c.ambiguous * 32768) / 32768 ≡ bit_of c.ambiguous = omega arith in
      ap (λ (n : ℕ). eqb n 1) e ∙ bit_read c.ambiguous

  pub content_back : content_of (word_of c) ≡ c
  content_back = λ t. record { label = label_read t; hole = hole_read t; ambiguous = ambiguous_read t }

  -- and it is a word
  pub word_in : word_of c < 65536
  unfolding word_of
  word_in = omega (arith, bit_in c.hole, bit_in c.ambiguous)

-- ---- the four changed words, as sums

module _ (w : ℕ) (small : w < 65536) where
  pub label_sum : (k : ℕ) → w / 16384 * 16384 + k + 1 ≡ with_label w k
  unfolding word_of number_of_label hole_of ambiguous_of
  label_sum k = rw (bit_back (w / 16384 % 2) (omega arith), bit_back (w / 32768) (omega arith)) (omega arith)

  pub hole_sum : w / 32768 * 32768 + 16384 + w % 16384 ≡ with_hole w
  unfolding word_of label_of ambiguous_of bit_of
  hole_sum = rw (number_back, bit_back (w / 32768) (omega arith)) (omega arith)

  pub ambiguous_sum : 32768 + w % 32768 ≡ with_ambiguous w
  unfolding word_of label_of hole_of bit_of
  ambiguous_sum = rw (number_back, bit_back (w / 16384 % 2) (omega arith)) (omega arith)

  pub plain_sum : w % 16384 ≡ without_marks w
  unfolding word_of label_of bit_of
  plain_sum = rw number_back (omega arith)

-- the label of a word by its low bits
pub label_none : (w : ℕ) → w % 16384 ≡ 0 → None ≡ label_of w
unfolding label_of label_of_number
label_none w e = rw e

-- ---- a cell read

pub label_on : (sheet : List ℕ) (c : Cell) → OnSheet c → label_at sheet c ≡ label_of (word_at sheet c)
unfolding label_at
label_on sheet c h = rw (yes (on_sheet c) h)

pub label_off : (sheet : List ℕ) (c : Cell) → on_sheet c ≡ false → label_at sheet c ≡ None
unfolding label_at
label_off sheet c e = rw e

pub hole_on : (sheet : List ℕ) (c : Cell) → OnSheet c → hole_at sheet c ≡ hole_of (word_at sheet c)
unfolding hole_at
hole_on sheet c h = rw (yes (on_sheet c) h)

pub ambiguous_on : (sheet : List ℕ) (c : Cell) → OnSheet c → ambiguous_at sheet c ≡ ambiguous_of (word_at sheet c)
unfolding ambiguous_at
ambiguous_on sheet c h = rw (yes (on_sheet c) h)

-- no corner is not a corner
pub no_corner_lem : (k : ℕ) → None ≡ Some k → ⊥
no_corner_lem k e = let z : ◌≡◌ {A = ℕ} 0 1 = cc in omega arith

-- a cell that names a corner is on the sheet
pub labelled_on_lem : (sheet : List ℕ) (c : Cell) (k : ℕ) → label_at sheet c ≡ Some k → OnSheet c
labelled_on_lem sheet c k e = go (on_sheet c) refl
  where
    go : (t : Bool) → on_sheet c ≡ t → OnSheet c
    go true f = subst T (sym f) tt
    go false f = absurd (no_corner_lem k (sym (label_off sheet c f) ∙ e))

-- ---- a sheet changed at one cell

-- `after` is as long as `before`, holds `content` at the cell c, and the same word as before at every other place
pub record Changed (before after : List ℕ) (c : Cell) (content : Content) : Type 0 where
  pub same_length : length after ≡ length before
  pub label_word : label_of (word_at after c) ≡ content.label
  pub hole_word : hole_of (word_at after c) ≡ content.hole
  pub ambiguous_word : ambiguous_of (word_at after c) ≡ content.ambiguous
  pub other_word : (p : ℕ) → (p ≡ place_of c → ⊥) → get_or after p 0 ≡ get_or before p 0

module _ (sheet : List ℕ) (c : Cell) (long : 16384 ≤ length sheet) (on : OnSheet c) where
  -- a content stored at a cell
  stored : (content : Content) → number_of_label content.label < 16384 → Changed sheet (set sheet (place_of c) (word_of content)) c content
  stored content holds =
      let e : get_or (set sheet (place_of c) (word_of content)) (place_of c) 0 ≡ word_of content = get_or-set_same sheet (place_of c) (word_of content) 0 (omega (arith, place_in c on)) in
      record {
        same_length = length-set sheet (place_of c) (word_of content);
        label_word = ap label_of e ∙ label_read content holds;
        hole_word = ap hole_of e ∙ hole_read content holds;
        ambiguous_word = ap ambiguous_of e ∙ ambiguous_read content holds;
        other_word = λ p. get_or-set_other sheet (place_of c) p (word_of content) 0;
      }

  -- the four changes
  pub attached_changes : (k : ℕ) → k < 16383 → Changed sheet (attached sheet c k) c (record { label = Some k; hole = hole_at sheet c; ambiguous = ambiguous_at sheet c })
  unfolding attached
  attached_changes k h = rw (hole_on sheet c on, ambiguous_on sheet c on) (stored _ (corner_holds k h))

  pub hole_changes : Changed sheet (hole_marked sheet c) c (record { label = label_at sheet c; hole = true; ambiguous = ambiguous_at sheet c })
  unfolding hole_marked
  hole_changes = rw (label_on sheet c on, ambiguous_on sheet c on) (stored _ (label_holds (word_at sheet c)))

  pub ambiguous_changes : Changed sheet (ambiguous_marked sheet c) c (record { label = label_at sheet c; hole = hole_at sheet c; ambiguous = true })
  unfolding ambiguous_marked
  ambiguous_changes = rw (label_on sheet c on, hole_on sheet c on) (stored _ (label_holds (word_at sheet c)))

  pub cleared_changes : Changed sheet (marks_cleared sheet c) c (record { label = label_at sheet c; hole = false; ambiguous = false })
  unfolding marks_cleared
  cleared_changes = rw (label_on sheet c on) (stored _ (label_holds (word_at sheet c)))

-- what is read after a change, at its cell and at any other, on the sheet or off it
module _ {before after : List ℕ} {c : Cell} {content : Content} (ch : Changed before after c content) (on : OnSheet c) where
  pub label_here : label_at after c ≡ content.label
  label_here = label_on after c on ∙ ch.label_word

  pub hole_here : hole_at after c ≡ content.hole
  hole_here = hole_on after c on ∙ ch.hole_word

  pub ambiguous_here : ambiguous_at after c ≡ content.ambiguous
  ambiguous_here = ambiguous_on after c on ∙ ch.ambiguous_word

  elsewhere : {A : Type 0} (f : ℕ → A) (off : A) (d : Cell) → (d ≡ c → ⊥) → cond (on_sheet d) (f (word_at after d)) off ≡ cond (on_sheet d) (f (word_at before d)) off
  elsewhere f off d ne = go (on_sheet d) refl
    where
      go : (t : Bool) → on_sheet d ≡ t → cond t (f (word_at after d)) off ≡ cond t (f (word_at before d)) off
      go true e = ap f (ch.other_word (place_of d) (λ k. ne (place_one d c (subst T (sym e) tt) on k)))
      go false e = refl

  pub label_else : (d : Cell) → (d ≡ c → ⊥) → label_at after d ≡ label_at before d
  unfolding label_at
  label_else = elsewhere label_of None

  pub hole_else : (d : Cell) → (d ≡ c → ⊥) → hole_at after d ≡ hole_at before d
  unfolding hole_at
  hole_else = elsewhere hole_of false

  pub ambiguous_else : (d : Cell) → (d ≡ c → ⊥) → ambiguous_at after d ≡ ambiguous_at before d
  unfolding ambiguous_at
  ambiguous_else = elsewhere ambiguous_of false

-- ---- the empty sheet

pub empty_length : length empty_sheet ≡ 16384
unfolding empty_sheet
empty_length = length-replicate {A = ℕ} 16384 0

blank : (n p : ℕ) → ◌≡◌ {A = ℕ} (get_or (replicate n 0) p 0) 0
blank zero p = refl
blank (suc n) zero = refl
blank (suc n) (suc p) = blank n p

pub empty_word : (p : ℕ) → get_or empty_sheet p 0 ≡ 0
unfolding empty_sheet
empty_word p = blank 16384 p

off_or_empty : {A : Type 0} (t : Bool) (f : ℕ → A) (off : A) (w : ℕ) → w ≡ 0 → f 0 ≡ off → cond t (f w) off ≡ off
off_or_empty true f off w e g = ap f e ∙ g
off_or_empty false f off w e g = refl

pub empty_label : (c : Cell) → label_at empty_sheet c ≡ None
unfolding label_at label_of label_of_number
empty_label c = off_or_empty (on_sheet c) label_of None (word_at empty_sheet c) (empty_word (place_of c)) refl

pub empty_hole : (c : Cell) → hole_at empty_sheet c ≡ false
unfolding hole_at hole_of
empty_hole c = off_or_empty (on_sheet c) hole_of false (word_at empty_sheet c) (empty_word (place_of c)) refl

pub empty_ambiguous : (c : Cell) → ambiguous_at empty_sheet c ≡ false
unfolding ambiguous_at ambiguous_of
empty_ambiguous c = off_or_empty (on_sheet c) ambiguous_of false (word_at empty_sheet c) (empty_word (place_of c)) refl
