-- The labels of a set: one more at the end, labels that are checked as the join has them, and the corners that their sheet uses. Assumes nothing.
use Rattle.std.specs.Prelude.{Some}
use mathlib.Core.Path.{◌≡◌, refl, sym, ap, ◌∙◌}
use mathlib.Core.Bool.{Bool, true, false, ◌||◌, or-true}
use mathlib.Core.List.Memᴰ
use mathlib.Core.List.{List, [], ◌∷◌, ◌++◌, map, Memᴰ}
use mathlib.Core.Logic.{◌⊎◌, inl, inr}
use Prim.Native.Nat.{ℕ, ◌≤◌}
use native.Mathlib.Omega.{arith}
use lib.IntN.{pos, nat_abs}
use Rattle.sheet.specs.Cells.{eq_z, cell_of, place_of}
use Rattle.sheet.proofs.Laws.{eq_z_equal, equal_eq_z, place_in}
use Rattle.sheet.proofs.Words.{label_on}
use Rattle.labels.specs.Used.{used_on}
use Rattle.labels.proofs.Below.{no_both}
use Rattle.labels.proofs.Labelled.{label_of_place}
use Rattle.labels.proofs.Used.{used_yes, used_there}
use Rattle.arguments.proofs.Chains.{or_false, or_false_both}
use Rattle.join.specs.Rule.{Placed, All, AllDiffer, Differ, Once}
use Rattle.join.specs.Join.{same_cell}
use Rattle.join.specs.Sheets.{Holdable, HoldsSet}
use Rattle.join.proofs.Lists.{same_cell_lem, cell_same}
use Rattle.join.proofs.Union.{of_all}
use Rattle.sizes.specs.Sizes.{corner_limit}
use Rattle.frame_line.specs.Lines.{LabelLine}
use Rattle.frame.specs.Frame.{collide, some_of, placed}
use Rattle.frame.specs.Text.{Sound, Apart}
use Rattle.frame.specs.Reading.{corner_taken}

pub same_truth : (a b : Bool) → (a ≡ true → b ≡ true) → (b ≡ true → a ≡ true) → a ≡ b
same_truth true b f g = sym (f refl)
same_truth false true f g = g refl
same_truth false false f g = refl

pub not_so : (t : Bool) → (t ≡ true → ⊥) → t ≡ false
not_so true h = absurd (h refl)
not_so false h = refl

-- ---- what holds of all elements of a list

pub all_then : {A : Type 0} (P : A → Type 0) (a b : List A) → All P a → All P b → All P (a ++ b)
all_then P [] b p q = q
all_then P (c ∷ a) b p q = (p.0, all_then P a b p.1 q)

pub all_before : {A : Type 0} (P : A → Type 0) (l : List A) (a : A) → All P (l ++ (a ∷ [])) → All P l × P a
all_before P [] a p = (tt, p.0)
all_before P (b ∷ l) a p = let r = all_before P l a p.1 in ((p.0, r.0), r.1)

-- ---- what is not doubled, by a test that tells what differs

module _ {A : Type 0} (D : A → A → Type 0) (eq : A → A → Bool) (to : (a b : A) → eq a b ≡ false → D a b) (from : (a b : A) → D a b → eq a b ≡ false) where
  pub differ_more : (l : List A) (a : A) → AllDiffer D l → some_of (λ b. eq b a) l ≡ false → AllDiffer D (l ++ (a ∷ []))
  unfolding some_of
  differ_more [] a d e = (tt, tt)
  differ_more (b ∷ l) a d e =
      let n = or_false_both (eq b a) (some_of (λ c. eq c a) l) e in
      (all_then (D b) l (a ∷ []) d.0 (to b a n.0, tt), differ_more l a d.1 n.1)

  pub differ_before : (l : List A) (a : A) → AllDiffer D (l ++ (a ∷ [])) → AllDiffer D l × (some_of (λ b. eq b a) l ≡ false)
  unfolding some_of
  differ_before [] a d = (tt, refl)
  differ_before (b ∷ l) a d =
      let e = all_before (D b) l a d.0 in
      let r = differ_before l a d.1 in
      ((e.0, r.0), or_false (eq b a) (some_of (λ c. eq c a) l) (from b a e.1) r.1)

-- two label lines with other cells and other corners
abbrev pub OtherLabel : LabelLine → LabelLine → Type 0
OtherLabel m l = (m.cell ≡ l.cell → ⊥) × (m.corner ≡ l.corner → ⊥)

other_label : (m l : LabelLine) → collide m l ≡ false → OtherLabel m l
other_label m l e =
    let n = or_false_both _ _ e in (λ q. no_both _ (cell_same m.cell l.cell q) n.0, λ q. no_both _ (equal_eq_z m.corner l.corner q) n.1)

no_collision : (m l : LabelLine) → OtherLabel m l → collide m l ≡ false
no_collision m l d =
    or_false _ _ (not_so (same_cell m.cell l.cell) (λ e. d.0 (same_cell_lem m.cell l.cell e)))
    (not_so (eq_z m.corner l.corner) (λ e. d.1 (eq_z_equal m.corner l.corner e)))

pub apart_more : (ls : List LabelLine) (l : LabelLine) → Apart ls → some_of (λ m. collide m l) ls ≡ false → Apart (ls ++ (l ∷ []))
apart_more ls l = differ_more OtherLabel collide other_label no_collision ls l

pub apart_before : (ls : List LabelLine) (l : LabelLine) → Apart (ls ++ (l ∷ [])) → Apart ls × (some_of (λ m. collide m l) ls ≡ false)
apart_before ls l = differ_before OtherLabel collide other_label no_collision ls l

-- ---- labels that are checked, as the join has them

module _ (n : ℕ) where
  -- its corner is a whole number
  pub whole_corner : (l : LabelLine) → Sound n l → l.corner ≡ pos (nat_abs l.corner)
  whole_corner l s = s.is_corner_holds ∙ ap pos (sym (ap nat_abs s.is_corner_holds))

  pub all_holdable : n ≤ corner_limit → (ls : List LabelLine) → All (Sound n) ls → All Holdable (map placed ls)
  all_holdable few [] s = tt
  all_holdable few (l ∷ ls) s =
      (record { on = s.0.on_sheet_holds; small = omega (arith, few, ap nat_abs s.0.is_corner_holds, s.0.given) }, all_holdable few ls s.1)

  differ_placed : (l : LabelLine) → Sound n l → (ls : List LabelLine) → All (Sound n) ls → All (OtherLabel l) ls → All (Differ (placed l)) (map placed ls)
  differ_placed l s [] t d = tt
  differ_placed l s (m ∷ ls) t d = (
    record { cells = d.0.0; corners = λ e. d.0.1 (whole_corner l s ∙ ap pos e ∙ sym (whole_corner m t.0)) },
    differ_placed l s ls t.1 d.1,
  )

  pub all_once : (ls : List LabelLine) → All (Sound n) ls → Apart ls → Once (map placed ls)
  all_once [] s a = tt
  all_once (l ∷ ls) s a = (differ_placed l s.0 ls s.1 a.0, all_once ls s.1 a.1)

-- ---- the corners that their sheet uses

some_in : {A : Type 0} (f : A → Bool) (l : List A) → some_of f l ≡ true → (a : A) × Memᴰ a l × (f a ≡ true)
unfolding some_of
some_in f [] e = absurd (no_both true refl (sym e))
some_in f (b ∷ l) e = go (f b) refl e (some_in f l)
  where
    go : (t : Bool) → f b ≡ t → (t || some_of f l) ≡ true → (some_of f l ≡ true → (a : _) × Memᴰ a l × (f a ≡ true)) → (a : _) × Memᴰ a (b ∷ l) × (f a ≡ true)
    go true p h w = (b, Memᴰ.head refl, p)
    go false p h w = let r = w h in (r.0, Memᴰ.tail r.1, r.2)

in_some : {A : Type 0} (f : A → Bool) (l : List A) (a : A) → Memᴰ a l → f a ≡ true → some_of f l ≡ true
unfolding some_of
in_some f [] a m e = absurd (Memᴰ.not-nil m)
in_some f (b ∷ l) a m e = go (Memᴰ.cases_cons m) (λ n. in_some f l a n e)
  where
    go : (a ≡ b) ⊎ Memᴰ a l → (Memᴰ a l → some_of f l ≡ true) → (f b || some_of f l) ≡ true
    go (inl p) w = ap (λ (t : Bool). t || some_of f l) (sym (ap f p) ∙ e)
    go (inr n) w = ap (λ (t : Bool). f b || t) (w n) ∙ or-true (f b)

-- a corner stands on the sheet exactly if a label has it
pub taken_used : (n : ℕ) (ls : List LabelLine) (sheet : List ℕ) → All (Sound n) ls → HoldsSet (map placed ls) sheet → (k : ℕ)
    → used_on sheet k ≡ corner_taken ls (pos k)
taken_used n ls sheet s h k =
    same_truth _ _
    (λ e.
    let u = used_yes sheet k e in
    let m = h.only (cell_of u.place) k (label_of_place sheet u.place u.below ∙ u.holds) in
    let o = Memᴰ.of_map placed ls m in
    let l = o.0 in
    let same : nat_abs l.corner ≡ k = ap (λ (x : Placed). x.corner) o.2 in
    in_some (λ x. eq_z x.corner (pos k)) ls l o.1 (equal_eq_z l.corner (pos k) (whole_corner n l (of_all (Sound n) ls s l o.1) ∙ ap pos same)))
    (λ e.
    let o = some_in (λ x. eq_z x.corner (pos k)) ls e in
    let l = o.0 in
    let same : nat_abs l.corner ≡ k = ap nat_abs (eq_z_equal l.corner (pos k) o.2) in
    let on = (of_all (Sound n) ls s l o.1).on_sheet_holds in
    used_there sheet k
    (record {
      place = place_of l.cell;
      below = place_in l.cell on;
      holds = sym (label_on sheet l.cell on) ∙ h.each (placed l) (Memᴰ.map placed o.1) ∙ ap Some same;
    }))
