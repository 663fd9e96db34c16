-- Laws of the corners seen through the sheet: what is seen by a cell's label, and that every change of the sheet that names
-- a given corner leaves the corners and the sheet together. Assumes nothing.
use Rattle.std.specs.Prelude.{Some, None}
use mathlib.Core.Path.{◌≡◌, refl, sym, ap, ◌∙◌}
use mathlib.Core.List.{List}
use Prim.Native.Nat.{ℕ, ◌<◌, ◌≤◌}
use native.Mathlib.Decide.{ℕ_discrete}
use native.Mathlib.Omega.{arith}
use borrow.Author.Tests.{lt-ltb}
use lib.ListN.{length, get_or}
use lib.Ieee.{nan}
use Rattle.sheet.specs.Cells.{OnSheet, place_of}
use Rattle.sheet.specs.Words.{Content, label_of, label_at, attached, marks_cleared}
use Rattle.sheet.specs.Corners.{CornerLists, corner_of, seen_through, seen_of, Given}
use Rattle.sheet.proofs.Laws.{place_in}
use Rattle.sheet.proofs.Words.{label_on, labelled_on_lem, Changed, attached_changes, cleared_changes}
use Rattle.sheet.specs.declared.Cell.{Cell}
use Rattle.sheet.specs.declared.Corner.{Corner}

-- what is seen, by the cell's label
pub seen_none : (corner : ℕ → Corner) (sheet : List ℕ) (c : Cell) → label_at sheet c ≡ None → seen_of corner sheet c ≡ None
unfolding seen_of seen_through
seen_none corner sheet c e = rw e

pub seen_some : (corner : ℕ → Corner) (sheet : List ℕ) (c : Cell) (k : ℕ) → label_at sheet c ≡ Some k → seen_of corner sheet c ≡ Some (corner k)
unfolding seen_of seen_through
seen_some corner sheet c k e = rw e

-- a corner of the lists
pub listed_corner : (l : CornerLists) (k : ℕ) → k < length l.xs
    → corner_of l k ≡ record { position = record { x = get_or l.xs k nan; y = get_or l.ys k nan }; pitch = get_or l.pitches k nan }
unfolding corner_of
listed_corner l k h = rw (lt-ltb k (length l.xs) h) refl

module _ {n : ℕ} {sheet : List ℕ} (given : Given n sheet) where
  -- a cell's corner is given
  pub label_known : (c : Cell) (k : ℕ) → label_at sheet c ≡ Some k → k < n
  label_known c k e =
      let on = labelled_on_lem sheet c k e in
      given.known (place_of c) k (place_in c on) (sym (label_on sheet c on) ∙ e)

  -- a change at a cell to a corner that is given, or to none
  pub given_changed : {after : List ℕ} {c : Cell} {content : Content} → Changed sheet after c content → ((k : ℕ) → content.label ≡ Some k → k < n) → Given n after
  given_changed {after} {c} {content} ch h =
      record {
        long = rw ch.same_length given.long;
        known = λ p k l e. go p k l e (ℕ_discrete p (place_of c));
      }
    where
      go : (p k : ℕ) → p < 16384 → label_of (get_or after p 0) ≡ Some k → Dec (p ≡ place_of c) → k < n
      go p k l e (yes f) = h k (sym ch.label_word ∙ ap (λ (q : ℕ). label_of (get_or after q 0)) (sym f) ∙ e)
      go p k l e (no f) = given.known p k l (ap label_of (sym (ch.other_word p f)) ∙ e)

  module _ (c : Cell) (on : OnSheet c) where
    pub given_attached : (k : ℕ) → k < n → k < 16383 → Given n (attached sheet c k)
    given_attached k l h = given_changed (attached_changes sheet c given.long on k h) (λ m e. let f : k ≡ m = cc in omega arith)

    pub given_cleared : Given n (marks_cleared sheet c)
    given_cleared = given_changed (cleared_changes sheet c given.long on) (label_known c)

-- with more corners
pub given_more : {n m : ℕ} {sheet : List ℕ} → n ≤ m → Given n sheet → Given m sheet
given_more h given = record { long = given.long; known = λ p k l e. let b = given.known p k l e in omega (arith, b, h) }
