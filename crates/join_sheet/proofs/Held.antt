-- The join as the code has it is the join of the lists. Assumes nothing.
use Rattle.std.specs.Prelude.{Option, Some, None, Ok, Err}
use mathlib.Core.Path.{◌≡◌, refl, sym, ap, ◌∙◌, subst}
use mathlib.Core.Bool.{Bool, true, false, ◌||◌}
use mathlib.Core.List.{List, ◌++◌, Memᴰ}
use Prim.Native.Nat.{ℕ, zero, suc, ◌<◌, ◌≤◌}
use native.Mathlib.Decide.{ℕ_discrete}
use native.Mathlib.Omega.{arith}
use borrow.Author.Tests.{eqb-true, eqb-false}
use lib.Dec.{eqb}
use lib.ListN.{get_or}
use Rattle.sizes.specs.Sizes.{place_count}
use Rattle.sheet.specs.Cells.{OnSheet, cell_of, place_of}
use Rattle.sheet.specs.Words.{label_of, label_at, empty_sheet}
use Rattle.sheet.specs.declared.Cell.{Cell}
use Rattle.sheet.specs.declared.Offset.{Offset}
use Rattle.sheet.proofs.Laws.{place_in, cell_on_lem, place_cell, cell_place}
use Rattle.sheet.proofs.Words.{label_on, labelled_on_lem, no_corner_lem}
use Rattle.labels.specs.Labelled.{any_below}
use Rattle.labels.specs.Used.{used_on}
use Rattle.labels.proofs.Below.{no_both, any_no}
use Rattle.labels.proofs.Labelled.{label_of_place}
use Rattle.labels.proofs.Used.{names_it, it_names, used_yes, used_there}
use Rattle.join.specs.declared.Unjoinable.{Unjoinable}
use Rattle.join.specs.Rule.{Verdict, Placed}
use Rattle.join.specs.Join.{every, cell_in, agree, agrees_in, verdict_by, verdict, is_found, new_by, union, joined_by, joined}
use Rattle.join.specs.Sheets.{labelled, HoldsSet}
use Rattle.join_sheet.specs.Held.{or_at, found_below, holds_at, cell_on, agrees_with, agrees_on, outcome_of, verdict_on, join_on, concluded}
use Rattle.join.proofs.Lists.{every_yes, every_all}
use Rattle.join.proofs.Meaning.{agree_cells, agree_corners, agrees, cell_found, not_found}
use Rattle.join.proofs.Sets.{labelled_append, once_one}

-- ---- the first place that passes

pub none_found : (f : ℕ → Bool) (n : ℕ) → any_below n f ≡ false → found_below f n ≡ None
unfolding found_below or_at any_below
none_found f zero e = refl
none_found f (suc n) e = go (f n) refl e (none_found f n)
  where
    go : (t : Bool) → f n ≡ t → (t || any_below n f) ≡ false → (any_below n f ≡ false → found_below f n ≡ None)
        → or_at (found_below f n) t n ≡ None
    go true p h w = absurd (no_both true refl h)
    go false p h w = rw (w h)

pub first_found : (f : ℕ → Bool) (n p : ℕ) → p < n → any_below p f ≡ false → f p ≡ true → found_below f n ≡ Some (cell_of p)
unfolding found_below or_at
first_found f zero p h a e = absurd (omega arith)
first_found f (suc n) p h a e = go (ℕ_discrete p n) (λ k. first_found f n p k a e)
  where
    go : Dec (p ≡ n) → (p < n → found_below f n ≡ Some (cell_of p)) → or_at (found_below f n) (f n) n ≡ Some (cell_of p)
    go (yes d) w = rw (none_found f n (ap (λ (m : ℕ). any_below m f) (sym d) ∙ a), sym (ap f d) ∙ e) (ap (λ (m : ℕ). Some (cell_of m)) (sym d))
    go (no d) w = rw (w (omega arith))

-- the only place that passes
only_found : (f : ℕ → Bool) (n p : ℕ) → p < n → f p ≡ true → ((q : ℕ) → q < n → f q ≡ true → q ≡ p) → found_below f n ≡ Some (cell_of p)
only_found f n p h e one = first_found f n p h (any_no f p (λ q l. go q l (f q) refl)) e
  where
    go : (q : ℕ) → q < p → (t : Bool) → f q ≡ t → t ≡ false
    go q l false k = refl
    go q l true k = absurd (let d = one q (omega arith) k in omega arith)

found_any : (f : ℕ → Bool) (n : ℕ) → is_found (found_below f n) ≡ any_below n f
unfolding found_below or_at any_below is_found
found_any f zero = refl
found_any f (suc n) = go (found_below f n) (f n) (any_below n f) (found_any f n)
  where
    go : (x : Option Cell) (t u : Bool) → is_found x ≡ u → is_found (or_at x t n) ≡ (t || u)
    go None true u e = refl
    go None false u e = e
    go (Some c) true u e = refl
    go (Some c) false u e = e

-- a sheet has a corner somewhere exactly if it is used
pub found_used : (sheet : List ℕ) (k : ℕ) → is_found (cell_on sheet k) ≡ used_on sheet k
unfolding cell_on used_on
found_used sheet k = found_any (holds_at sheet k) place_count

found_on : (f : ℕ → Bool) (n : ℕ) → n ≤ place_count → (c : Cell) → found_below f n ≡ Some c → OnSheet c
unfolding found_below or_at
found_on f zero h c e = absurd (let z : ◌≡◌ {A = ℕ} 0 1 = cc in omega arith)
found_on f (suc n) h c e = go (found_below f n) (f n) e (found_on f n (omega arith) c)
  where
    go : (x : Option Cell) (t : Bool) → or_at x t n ≡ Some c → (x ≡ Some c → OnSheet c) → OnSheet c
    go None true k w = let d : cell_of n ≡ c = cc in subst OnSheet d (cell_on_lem n (omega arith))
    go None false k w = absurd (let z : ◌≡◌ {A = ℕ} 0 1 = cc in omega arith)
    go (Some a) t k w = w k

pub cell_found_on : (sheet : List ℕ) (k : ℕ) (c : Cell) → cell_on sheet k ≡ Some c → OnSheet c
unfolding cell_on
cell_found_on sheet k c e = found_on (holds_at sheet k) place_count (omega arith) c e

-- ---- a set and its sheet

module _ {first : List Placed} {sheet : List ℕ} (h : HoldsSet first sheet) where
  cells_one : (a b : Placed) → Memᴰ a first → Memᴰ b first → a.corner ≡ b.corner → a.cell ≡ b.cell
  cells_one a b m n e = ap (λ (x : Placed). x.cell) (once_one first h.once a b m n e)

  on_first : (a : Placed) → Memᴰ a first → OnSheet a.cell
  on_first a m = labelled_on_lem sheet a.cell a.corner (h.each a m)

  holds_first : (a : Placed) → Memᴰ a first → label_of (get_or sheet (place_of a.cell) 0) ≡ Some a.corner
  holds_first a m = sym (label_on sheet a.cell (on_first a m)) ∙ h.each a m

  used_first : (a : Placed) → Memᴰ a first → (k : ℕ) → a.corner ≡ k → used_on sheet k ≡ true
  used_first a m k e =
      let on = on_first a m in
      used_there sheet k (record { place = place_of a.cell; below = place_in a.cell on; holds = holds_first a m ∙ ap Some e })

  -- where the sheet has a corner is where the set has it
  cell_same : (k : ℕ) → cell_on sheet k ≡ cell_in first k
  unfolding cell_on
  cell_same k = go (cell_in first k) refl
    where
      there : (q : ℕ) → q < place_count → holds_at sheet k q ≡ true → Memᴰ (record { corner = k; cell = cell_of q }) first
      there q l e = h.only (cell_of q) k (label_of_place sheet q l ∙ it_names k (label_of (get_or sheet q 0)) e)

      none : cell_in first k ≡ None → (q : ℕ) → q < place_count → (t : Bool) → holds_at sheet k q ≡ t → t ≡ false
      none e q l false p = refl
      none e q l true p = absurd (not_found first k e _ (there q l p) refl)

      go : (x : Option Cell) → cell_in first k ≡ x → found_below (holds_at sheet k) place_count ≡ x
      go None e = none_found (holds_at sheet k) place_count (any_no (holds_at sheet k) place_count (λ q l. none e q l (holds_at sheet k q) refl))
      go (Some c) e =
          let r = cell_found first k c e in
          let on = on_first r.label r.listed in
          let p = place_of r.label.cell in
          only_found (holds_at sheet k) place_count p (place_in r.label.cell on)
          (names_it k (label_of (get_or sheet p 0)) (holds_first r.label r.listed ∙ ap Some r.its_corner))
          (λ q l m. sym (place_cell q l) ∙ ap place_of (cells_one _ r.label (there q l m) r.listed (sym r.its_corner)))
          ∙ ap Some (cell_place r.label.cell on ∙ r.its_cell)

  -- a label agrees with the sheet exactly if it agrees with the set
  agrees_same : (l : Placed) → agrees_on sheet l ≡ agrees_in first l
  unfolding agrees_on agrees_with agrees_in
  agrees_same l = go (label_at sheet l.cell) (used_on sheet l.corner) refl refl
    where
      not_all : ((every (λ a. agree a l) first ≡ true) → ⊥) → (t : Bool) → every (λ a. agree a l) first ≡ t → false ≡ t
      not_all n true e = absurd (n e)
      not_all n false e = refl

      corner : (j : ℕ) → label_at sheet l.cell ≡ Some j → (t : Bool) → eqb j l.corner ≡ t → t ≡ every (λ a. agree a l) first
      corner j e true d =
          let here : label_at sheet l.cell ≡ Some l.corner = e ∙ ap Some (eqb-true j l.corner d) in
          sym (every_all (λ a. agree a l) first (λ a m. agrees a l
          (λ q. cells_one a l m (h.only l.cell l.corner here) q)
          (λ q. let z : Some a.corner ≡ Some l.corner = sym (h.each a m) ∙ ap (label_at sheet) q ∙ here in cc)))
      corner j e false d =
          not_all
          (λ y.
          eqb-false j l.corner d
          (agree_corners (record { corner = j; cell = l.cell }) l (every_yes (λ a. agree a l) first y _ (h.only l.cell j e)) refl)) _ refl

      bare : label_at sheet l.cell ≡ None → (a : Placed) → Memᴰ a first → a.cell ≡ l.cell → ⊥
      bare e a m q = no_corner_lem a.corner (sym e ∙ ap (label_at sheet) (sym q) ∙ h.each a m)

      go : (x : Option ℕ) (u : Bool) → label_at sheet l.cell ≡ x → used_on sheet l.corner ≡ u → agrees_with x u l.corner ≡ every (λ a. agree a l) first
      go (Some j) u e d = corner j e (eqb j l.corner) refl
      go None true e d =
          let s = used_yes sheet l.corner d in
          let m = h.only (cell_of s.place) l.corner (label_of_place sheet s.place s.below ∙ s.holds) in
          not_all
          (λ y. bare e _ m (agree_cells (record { corner = l.corner; cell = cell_of s.place }) l (every_yes (λ a. agree a l) first y _ m) refl)) _ refl
      go None false e d =
          sym (every_all (λ a. agree a l) first (λ a m. agrees a l
          (λ q. absurd (no_both (used_on sheet l.corner) (used_first a m l.corner q) d))
          (λ q. absurd (bare e a m q))))

  -- the join on the sheet is the join of the lists
  pub joins_as : (second : List Placed) → join_on sheet second ≡ concluded sheet (joined first second)
  unfolding join_on verdict_on joined verdict concluded outcome_of joined_by union
  joins_as second =
      ap (outcome_of sheet second) (λ t. verdict_by (λ k. cell_same k t) (λ l. agrees_same l t) second)
      ∙ go (verdict_by (cell_in first) (agrees_in first) second)
    where
      written : (d : Offset) → labelled sheet (new_by (cell_on sheet) second d) ≡ labelled empty_sheet (first ++ new_by (cell_in first) second d)
      written d =
          (λ t. labelled (h.is_sheet t) (new_by (λ k. cell_same k t) second d)) ∙ sym (labelled_append first (new_by (cell_in first) second d) empty_sheet)

      go : (v : Verdict) → outcome_of sheet second v ≡ concluded sheet (joined_by first second v)
      go (Err Unjoinable.Apart) = refl
      go (Err Unjoinable.Clash) = refl
      go (Err Unjoinable.Off) = refl
      go (Ok d) = λ t. record { sheet = written d t; answer = (Ok tt) }
