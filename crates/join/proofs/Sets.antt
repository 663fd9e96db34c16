-- The sheet of a set of labels: it is as long as the empty one, each label's cell holds its corner, no other cell holds one, and there are no marks.
-- Assumes nothing.
use Rattle.std.specs.Prelude.{Some}
use mathlib.Core.Path.{◌≡◌, refl, sym, ap, ◌∙◌}
use mathlib.Core.Bool.{false}
use mathlib.Core.List.Memᴰ
use mathlib.Core.List.{List, [], ◌∷◌, ◌++◌, Memᴰ}
use mathlib.Core.Logic.{◌⊎◌, inl, inr, ⊎_elim}
use Prim.Native.Nat.{ℕ, ◌≤◌}
use native.Mathlib.Omega.{arith}
use lib.ListN.{length, length-set}
use Rattle.sizes.specs.Sizes.{place_count}
use Rattle.sheet.specs.Words.{label_at, hole_at, ambiguous_at, attached, empty_sheet}
use Rattle.sheet.specs.declared.Cell.{Cell}
use Rattle.sheet.proofs.Words.{Changed, attached_changes, label_here, hole_here, ambiguous_here, label_else, hole_else, ambiguous_else, no_corner_lem, empty_length, empty_label, empty_hole, empty_ambiguous}
use Rattle.join.specs.Rule.{Placed, All, Differ, Once}
use Rattle.join.specs.Sheets.{labelled, Holdable, HoldsSet}
use Rattle.join.proofs.Lists.{by_cell}
use Rattle.join.proofs.Union.{of_all}

-- ---- the sheet's length, and labels in two parts

pub labelled_length : (ls : List Placed) (sheet : List ℕ) → length (labelled sheet ls) ≡ length sheet
unfolding labelled attached
labelled_length [] sheet = refl
labelled_length (l ∷ ls) sheet = labelled_length ls (attached sheet l.cell l.corner) ∙ length-set sheet _ _

pub labelled_append : (l m : List Placed) (sheet : List ℕ) → labelled sheet (l ++ m) ≡ labelled (labelled sheet l) m
unfolding labelled
labelled_append [] m sheet = refl
labelled_append (a ∷ l) m sheet = labelled_append l m (attached sheet a.cell a.corner)

-- ---- one label

abbrev put : List ℕ → Placed → List ℕ
put sheet l = attached sheet l.cell l.corner

module _ (sheet : List ℕ) (long : place_count ≤ length sheet) (l : Placed) (s : Holdable l) where
  changed :
      Changed sheet (put sheet l) l.cell
      (record { label = Some l.corner; hole = hole_at sheet l.cell; ambiguous = ambiguous_at sheet l.cell })
  changed = attached_changes sheet l.cell long s.on l.corner (omega arith)

  still_long : place_count ≤ length (put sheet l)
  still_long = omega (arith, changed.same_length)

  here : label_at (put sheet l) l.cell ≡ Some l.corner
  here = label_here changed s.on

  label_cases : (c : Cell) (k : ℕ) → label_at (put sheet l) c ≡ Some k → (record { corner = k; cell = c } ≡ l) ⊎ (label_at sheet c ≡ Some k)
  label_cases c k e =
      by_cell c l.cell
      (λ p. inl (λ t. record { corner = corner_one k l.corner (sym e ∙ ap (label_at (put sheet l)) p ∙ here) t; cell = p t }))
      (λ p. inr (sym (label_else changed s.on c p) ∙ e))
    where
      corner_one : (j k : ℕ) → Some j ≡ Some k → j ≡ k
      corner_one j k h = cc

  hole_kept : (c : Cell) → hole_at (put sheet l) c ≡ hole_at sheet c
  hole_kept c = by_cell c l.cell (λ p. rw p (hole_here changed s.on)) (hole_else changed s.on c)

  ambiguous_kept : (c : Cell) → ambiguous_at (put sheet l) c ≡ ambiguous_at sheet c
  ambiguous_kept c = by_cell c l.cell (λ p. rw p (ambiguous_here changed s.on)) (ambiguous_else changed s.on c)

-- ---- all labels

others_keep : (ls : List Placed) (sheet : List ℕ) → place_count ≤ length sheet → All Holdable ls → (c : Cell)
    → ((m : Placed) → Memᴰ m ls → c ≡ m.cell → ⊥) → label_at (labelled sheet ls) c ≡ label_at sheet c
unfolding labelled
others_keep [] sheet long s c d = refl
others_keep (l ∷ ls) sheet long s c d =
    others_keep ls (put sheet l) (still_long sheet long l s.0) s.1 c (λ m n. d m (Memᴰ.tail n))
    ∙ label_else (changed sheet long l s.0) s.0.on c (d l (Memᴰ.head refl))

each_held : (ls : List Placed) (sheet : List ℕ) → place_count ≤ length sheet → All Holdable ls → Once ls
    → (a : Placed) → Memᴰ a ls → label_at (labelled sheet ls) a.cell ≡ Some a.corner
unfolding labelled
each_held [] sheet long s o a m = absurd (Memᴰ.not-nil m)
each_held (l ∷ ls) sheet long s o a m =
    let after = still_long sheet long l s.0 in
    ⊎_elim
    (λ e. rw e (others_keep ls (put sheet l) after s.1 l.cell (λ n p. (of_all (Differ l) ls o.0 n p).cells) ∙ here sheet long l s.0))
    (each_held ls (put sheet l) after s.1 o.1 a)
    (Memᴰ.cases_cons m)

only_named : (ls : List Placed) (sheet : List ℕ) → place_count ≤ length sheet → All Holdable ls → (c : Cell) (k : ℕ)
    → label_at (labelled sheet ls) c ≡ Some k → Memᴰ (record { corner = k; cell = c }) ls ⊎ (label_at sheet c ≡ Some k)
unfolding labelled
only_named [] sheet long s c k e = inr e
only_named (l ∷ ls) sheet long s c k e =
    ⊎_elim (λ m. inl (Memᴰ.tail m)) (λ h. ⊎_elim (λ p. inl (Memᴰ.head p)) inr (label_cases sheet long l s.0 c k h))
    (only_named ls (put sheet l) (still_long sheet long l s.0) s.1 c k e)

holes_kept : (ls : List Placed) (sheet : List ℕ) → place_count ≤ length sheet → All Holdable ls → (c : Cell) → hole_at (labelled sheet ls) c ≡ hole_at sheet c
unfolding labelled
holes_kept [] sheet long s c = refl
holes_kept (l ∷ ls) sheet long s c = holes_kept ls (put sheet l) (still_long sheet long l s.0) s.1 c ∙ hole_kept sheet long l s.0 c

ambiguous_all_kept : (ls : List Placed) (sheet : List ℕ) → place_count ≤ length sheet → All Holdable ls → (c : Cell)
    → ambiguous_at (labelled sheet ls) c ≡ ambiguous_at sheet c
unfolding labelled
ambiguous_all_kept [] sheet long s c = refl
ambiguous_all_kept (l ∷ ls) sheet long s c =
    ambiguous_all_kept ls (put sheet l) (still_long sheet long l s.0) s.1 c ∙ ambiguous_kept sheet long l s.0 c

-- ---- the sheet of a set

empty_long : place_count ≤ length empty_sheet
empty_long = omega (arith, empty_length)

pub set_long : (ls : List Placed) → place_count ≤ length (labelled empty_sheet ls)
set_long ls = omega (arith, empty_length, labelled_length ls empty_sheet)

module _ (ls : List Placed) (s : All Holdable ls) where
  pub set_no_hole : (c : Cell) → hole_at (labelled empty_sheet ls) c ≡ false
  set_no_hole c = holes_kept ls empty_sheet empty_long s c ∙ empty_hole c

  pub set_no_ambiguous : (c : Cell) → ambiguous_at (labelled empty_sheet ls) c ≡ false
  set_no_ambiguous c = ambiguous_all_kept ls empty_sheet empty_long s c ∙ empty_ambiguous c

  -- every set that has each corner and each cell once, on the sheet, is held by its sheet; so is the union
  pub set_held : Once ls → HoldsSet ls (labelled empty_sheet ls)
  set_held o =
      record {
        is_sheet = refl;
        each = each_held ls empty_sheet empty_long s o;
        only = λ c k e. ⊎_elim (λ m. m) (λ h. absurd (no_corner_lem k (sym (empty_label c) ∙ h))) (only_named ls empty_sheet empty_long s c k e);
        once = o;
      }

-- two labels of a set with one corner are one
pub once_one : (l : List Placed) → Once l → (a b : Placed) → Memᴰ a l → Memᴰ b l → a.corner ≡ b.corner → a ≡ b
once_one [] s a b m n e = absurd (Memᴰ.not-nil m)
once_one (x ∷ l) s a b m n e = go (once_one l s.1 a b) (Memᴰ.cases_cons m) (Memᴰ.cases_cons n)
  where
    go : (Memᴰ a l → Memᴰ b l → a.corner ≡ b.corner → a ≡ b) → (a ≡ x) ⊎ Memᴰ a l → (b ≡ x) ⊎ Memᴰ b l → a ≡ b
    go w (inl p) (inl q) = p ∙ sym q
    go w (inl p) (inr q) = absurd ((of_all (Differ x) l s.0 b q).corners (ap (λ (y : Placed). y.corner) (sym p) ∙ e))
    go w (inr p) (inl q) = absurd ((of_all (Differ x) l s.0 a p).corners (ap (λ (y : Placed). y.corner) (sym q) ∙ sym e))
    go w (inr p) (inr q) = w p q e
