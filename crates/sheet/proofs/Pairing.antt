-- Laws of two frames with paired corners: the same is seen through paired sheets; every change of both sheets at one cell,
-- with paired corners, leaves them paired; a cell holds a corner exactly if it holds the pair. Assumes nothing.
use Rattle.std.specs.Prelude.{Option, Some, None}
use mathlib.Core.Path.{◌≡◌, refl, sym, ap, ◌∙◌, subst}
use mathlib.Core.Bool.{Bool, true, false, cond}
use mathlib.Core.List.{List}
use Prim.Native.Nat.{ℕ, ◌<◌, ◌≤◌}
use native.Mathlib.Decide.{ℕ_discrete}
use lib.Dec.{T}
use lib.ListN.{length, get_or}
use Rattle.sheet.specs.Cells.{on_sheet, OnSheet, place_of}
use Rattle.sheet.specs.Words.{Content, label_of_number, label_of, hole_of, ambiguous_of, word_at, label_at, hole_at, ambiguous_at, attached, hole_marked, ambiguous_marked, marks_cleared, empty_sheet}
use Rattle.sheet.specs.Corners.{CornerLists, corner_of, seen_through, seen_of, AllListed, Given}
use Rattle.sheet.specs.Pairing.{Shuffle, paired_label, PairedCorners, PairedSheets}
use Rattle.sheet.proofs.Laws.{place_in}
use Rattle.sheet.proofs.Words.{Changed, attached_changes, hole_changes, ambiguous_changes, cleared_changes, no_corner_lem, empty_word}
use Rattle.sheet.proofs.Corners.{label_known}
use Rattle.sheet.specs.declared.Cell.{Cell}

corner_number_lem : (j k : ℕ) → Some j ≡ Some k → j ≡ k
corner_number_lem j k e = cc

-- ---- a pairing of numbers

module _ {n : ℕ} (s : Shuffle n) where
  -- two numbers with the same pair are one
  pub to_one : (j k : ℕ) → j < n → k < n → s.to j ≡ s.to k → j ≡ k
  to_one j k hj hk e = sym (s.from_to_holds j hj) ∙ ap s.from e ∙ s.from_to_holds k hk

  -- a paired label that names a corner is the pair of one that does
  named : (l : Option ℕ) (k : ℕ) (P : Type 0) → paired_label s l ≡ Some k → ((j : ℕ) → l ≡ Some j → s.to j ≡ k → P) → P
  unfolding paired_label
  named None k P e f = absurd (no_corner_lem k e)
  named (Some j) k P e f = f j refl (corner_number_lem (s.to j) k e)

-- ---- cells of paired sheets

module _ {n : ℕ} {s : Shuffle n} {sheet sheet' : List ℕ} (paired : PairedSheets s sheet sheet') where
  -- what pairs place by place pairs cell by cell
  by_cell : {A : Type 0} (f : ℕ → A) (off : A) (pair : A → A) → off ≡ pair off → ((p : ℕ) → p < 16384 → f (get_or sheet' p 0) ≡ pair (f (get_or sheet p 0)))
      → (c : Cell) → cond (on_sheet c) (f (word_at sheet' c)) off ≡ pair (cond (on_sheet c) (f (word_at sheet c)) off)
  by_cell f off pair none by_place c = go (on_sheet c) refl
    where
      go : (t : Bool) → on_sheet c ≡ t → cond t (f (word_at sheet' c)) off ≡ pair (cond t (f (word_at sheet c)) off)
      go true e = by_place (place_of c) (place_in c (subst T (sym e) tt))
      go false e = none

  pub paired_label_lem : (c : Cell) → label_at sheet' c ≡ paired_label s (label_at sheet c)
  unfolding label_at paired_label
  paired_label_lem = by_cell label_of None (paired_label s) refl paired.labels

  pub paired_hole : (c : Cell) → hole_at sheet' c ≡ hole_at sheet c
  unfolding hole_at
  paired_hole = by_cell hole_of false (λ b. b) refl paired.holes

  pub paired_ambiguous : (c : Cell) → ambiguous_at sheet' c ≡ ambiguous_at sheet c
  unfolding ambiguous_at
  paired_ambiguous = by_cell ambiguous_of false (λ b. b) refl paired.ambiguous

  -- a cell of the first holds a corner exactly if that cell of the second holds the pair
  pub pair_there : (c : Cell) (k : ℕ) → label_at sheet c ≡ Some k → label_at sheet' c ≡ Some (s.to k)
  unfolding paired_label
  pair_there c k e = paired_label_lem c ∙ ap (paired_label s) e

  pub pair_here : (c : Cell) (k : ℕ) → ((j : ℕ) → label_at sheet c ≡ Some j → j < n) → k < n → label_at sheet' c ≡ Some (s.to k) → label_at sheet c ≡ Some k
  pair_here c k known h e =
      named s (label_at sheet c) (s.to k) _ (sym (paired_label_lem c) ∙ e)
      (λ j f g. f ∙ ap Some (to_one s j k (known j f) h g))

  -- ---- the changes

  -- a change of both sheets at one cell to paired labels and equal marks
  pub paired_changed : {after after' : List ℕ} {c : Cell} {content content' : Content} → Changed sheet after c content → Changed sheet' after' c content'
      → content'.label ≡ paired_label s content.label → content'.hole ≡ content.hole → content'.ambiguous ≡ content.ambiguous → PairedSheets s after after'
  paired_changed {after} {after'} {c} ch ch' l h a =
      record {
        same_length = ch'.same_length ∙ paired.same_length ∙ sym ch.same_length;
        labels = λ p m. at p label_of (paired_label s) (ch'.label_word ∙ l ∙ ap (paired_label s) (sym ch.label_word)) (paired.labels p m) (ℕ_discrete p (place_of c));
        holes = λ p m. at p hole_of (λ b. b) (ch'.hole_word ∙ h ∙ sym ch.hole_word) (paired.holes p m) (ℕ_discrete p (place_of c));
        ambiguous = λ p m. at p ambiguous_of (λ b. b) (ch'.ambiguous_word ∙ a ∙ sym ch.ambiguous_word) (paired.ambiguous p m) (ℕ_discrete p (place_of c));
      }
    where
      at : {A : Type 0} (p : ℕ) (f : ℕ → A) (pair : A → A) → f (get_or after' (place_of c) 0) ≡ pair (f (get_or after (place_of c) 0))
          → f (get_or sheet' p 0) ≡ pair (f (get_or sheet p 0)) → Dec (p ≡ place_of c) → f (get_or after' p 0) ≡ pair (f (get_or after p 0))
      at p f pair here there (yes e) = rw e here
      at p f pair here there (no d) = rw (ch'.other_word p d, ch.other_word p d) there

  module _ (c : Cell) (long : 16384 ≤ length sheet) (on : OnSheet c) where
    long' : 16384 ≤ length sheet'
    long' = rw paired.same_length long

    pub paired_attached : (k : ℕ) → k < 16383 → s.to k < 16383 → PairedSheets s (attached sheet c k) (attached sheet' c (s.to k))
    unfolding paired_label
    paired_attached k h h' =
        paired_changed (attached_changes sheet c long on k h) (attached_changes sheet' c long' on (s.to k) h') refl (paired_hole c) (paired_ambiguous c)

    pub paired_hole_marked : PairedSheets s (hole_marked sheet c) (hole_marked sheet' c)
    paired_hole_marked = paired_changed (hole_changes sheet c long on) (hole_changes sheet' c long' on) (paired_label_lem c) refl (paired_ambiguous c)

    pub paired_ambiguous_marked : PairedSheets s (ambiguous_marked sheet c) (ambiguous_marked sheet' c)
    paired_ambiguous_marked = paired_changed (ambiguous_changes sheet c long on) (ambiguous_changes sheet' c long' on) (paired_label_lem c) (paired_hole c) refl

    pub paired_cleared : PairedSheets s (marks_cleared sheet c) (marks_cleared sheet' c)
    paired_cleared = paired_changed (cleared_changes sheet c long on) (cleared_changes sheet' c long' on) (paired_label_lem c) refl refl

-- two empty sheets
pub paired_empty : {n : ℕ} (s : Shuffle n) → PairedSheets s empty_sheet empty_sheet
unfolding paired_label label_of label_of_number
paired_empty s = record { same_length = refl; labels = λ p h. rw (empty_word p) refl; holes = λ p h. refl; ambiguous = λ p h. refl }

-- ---- what is seen

module _ {l l' : CornerLists} {sheet sheet' : List ℕ}
    (corners : PairedCorners l l') (paired : PairedSheets corners.pairs sheet sheet') (given : Given (length l.xs) sheet) where
  through : (m : Option ℕ) → ((k : ℕ) → m ≡ Some k → k < length l.xs) → seen_through (corner_of l') (paired_label corners.pairs m) ≡ seen_through (corner_of l) m
  unfolding seen_through paired_label
  through None h = refl
  through (Some k) h = ap Some (corners.same_corner_holds k (h k refl))

  -- the same is seen through both sheets, at every cell
  pub seen_paired : seen_of (corner_of l') sheet' ≡ seen_of (corner_of l) sheet
  unfolding seen_of
  seen_paired =
      λ t c.
      (ap (seen_through (corner_of l')) (paired_label_lem paired c) ∙ through (label_at sheet c) (label_known given c)) t

  -- the second frame's corners and sheet belong together too
  pub given_paired : Given (length l'.xs) sheet'
  given_paired =
      record {
        long = rw paired.same_length given.long;
        known =
            λ p k h e.
            named corners.pairs (label_of (get_or sheet p 0)) k (k < length l'.xs) (sym (paired.labels p h) ∙ e)
            (λ j f g. rw (corners.same_xs, sym g) (corners.pairs.to_in j (given.known p j h f)));
      }

-- two frames' lists are as long
pub listed_paired : {l l' : CornerLists} → PairedCorners l l' → AllListed l → AllListed l'
listed_paired corners listed =
    record { ys_long = rw (corners.same_xs, corners.same_ys) listed.ys_long; pitches_long = rw (corners.same_xs, corners.same_pitches) listed.pitches_long }
