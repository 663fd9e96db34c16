-- The verdict says what the rule says, and nothing else does: each of the four cases exactly when its meaning holds. Assumes nothing.
use Rattle.std.specs.Prelude.{Option, Some, None, Ok, Err}
use mathlib.Core.Path.{◌≡◌, refl, sym, ap, ◌∙◌, subst}
use mathlib.Core.Bool.{Bool, true, false, cond, not}
use mathlib.Core.List.Memᴰ
use mathlib.Core.List.{List, [], ◌∷◌, map, Memᴰ}
use mathlib.Core.Logic.{◌⊎◌, inl, inr}
use Prim.Native.Nat.{ℕ}
use native.Mathlib.Omega.{arith}
use borrow.Author.Tests.{eq-eqb, eqb-true, eqb-false}
use lib.Dec.{T, eqb}
use Rattle.sheet.specs.Cells.{on_sheet, moved, difference_of}
use Rattle.sheet.specs.declared.Cell.{Cell}
use Rattle.sheet.specs.declared.Offset.{Offset}
use Rattle.sheet.proofs.Words.{yes}
use Rattle.labels.proofs.Below.{no_both}
use Rattle.join.specs.declared.Unjoinable.{Unjoinable}
use Rattle.join.specs.Rule.{Verdict, Placed, shifted_by, Shared, Fits, OntoSheet, Shift, OneShift, FitsOff, Meaning}
use Rattle.join.specs.Join.{every, cell_in, asks, asked, same_cell, agree, agrees_in, tested, told, verdict, VerdictExactlyIf}
use Rattle.join.proofs.Lists.{every_yes, every_all, same_cell_lem, cell_same, difference_moved}

-- ---- two labels that agree

pub agree_cells : (a b : Placed) → agree a b ≡ true → a.corner ≡ b.corner → a.cell ≡ b.cell
unfolding agree
agree_cells a b e d = same_cell_lem a.cell b.cell (rw (eq-eqb a.corner b.corner d) at e)

pub agree_corners : (a b : Placed) → agree a b ≡ true → a.cell ≡ b.cell → a.corner ≡ b.corner
unfolding agree
agree_corners a b e d = go (eqb a.corner b.corner) refl
  where
    go : (t : Bool) → eqb a.corner b.corner ≡ t → a.corner ≡ b.corner
    go true f = eqb-true a.corner b.corner f
    go false f = absurd (no_both false (rw (f, cell_same a.cell b.cell d) at e) refl)

pub agrees : (a b : Placed) → (a.corner ≡ b.corner → a.cell ≡ b.cell) → (a.cell ≡ b.cell → a.corner ≡ b.corner) → agree a b ≡ true
unfolding agree
agrees a b f g = go (eqb a.corner b.corner) (same_cell a.cell b.cell) refl refl
  where
    go : (t u : Bool) → eqb a.corner b.corner ≡ t → same_cell a.cell b.cell ≡ u → cond t u (not u) ≡ true
    go true u p q = sym q ∙ cell_same a.cell b.cell (f (eqb-true a.corner b.corner p))
    go false true p q = absurd (eqb-false a.corner b.corner p (g (same_cell_lem a.cell b.cell q)))
    go false false p q = refl

-- ---- the tests

module _ (first second : List Placed) (d : Offset) where
  test_fits : every (agrees_in first) (map (shifted_by d) second) ≡ true → Fits first second d
  unfolding agrees_in
  test_fits e =
      record {
        one_cell = λ a b m n. agree_cells a (shifted_by d b) (pair a b m n);
        one_corner = λ a b m n. agree_corners a (shifted_by d b) (pair a b m n);
      }
    where
      pair : (a b : Placed) → Memᴰ a first → Memᴰ b second → agree a (shifted_by d b) ≡ true
      pair a b m n =
          every_yes (λ c. agree c (shifted_by d b)) first
          (every_yes (agrees_in first) (map (shifted_by d) second) e (shifted_by d b) (Memᴰ.map (shifted_by d) n)) a m

  fits_test : Fits first second d → every (agrees_in first) (map (shifted_by d) second) ≡ true
  unfolding agrees_in
  fits_test f = every_all (agrees_in first) (map (shifted_by d) second) (λ l m. moved_one l (Memᴰ.of_map (shifted_by d) second m))
    where
      moved_one : (l : Placed) → (b : Placed) × Memᴰ b second × (shifted_by d b ≡ l) → agrees_in first l ≡ true
      moved_one l s =
          every_all (λ a. agree a l) first
          (λ a m.
          subst (λ (x : Placed). agree a x ≡ true) s.2
          (agrees a (shifted_by d s.0) (f.one_cell a s.0 m s.1) (f.one_corner a s.0 m s.1)))

  test_onto : every (λ l. on_sheet l.cell) (map (shifted_by d) second) ≡ true → OntoSheet second d
  test_onto e =
      record {
        on = λ b m. subst T (sym (every_yes (λ l. on_sheet l.cell) (map (shifted_by d) second) e (shifted_by d b) (Memᴰ.map (shifted_by d) m))) tt;
      }

  onto_test : OntoSheet second d → every (λ l. on_sheet l.cell) (map (shifted_by d) second) ≡ true
  onto_test o = every_all (λ l. on_sheet l.cell) (map (shifted_by d) second) (λ l m. one l (Memᴰ.of_map (shifted_by d) second m))
    where
      one : (l : Placed) → (b : Placed) × Memᴰ b second × (shifted_by d b ≡ l) → on_sheet l.cell ≡ true
      one l s = subst (λ (x : Placed). on_sheet x.cell ≡ true) s.2 (yes (on_sheet (moved s.0.cell d)) (o.on s.0 s.1))

-- ---- the shift asked for

-- a label of a set with this corner at this cell
pub record CellOf (l : List Placed) (k : ℕ) (c : Cell) : Type 0 where
  pub label : Placed
  pub listed : Memᴰ label l
  pub its_corner : label.corner ≡ k
  pub its_cell : label.cell ≡ c

pub cell_found : (l : List Placed) (k : ℕ) (c : Cell) → cell_in l k ≡ Some c → CellOf l k c
unfolding cell_in
cell_found [] k c e = absurd (let z : ◌≡◌ {A = ℕ} 0 1 = cc in omega arith)
cell_found (a ∷ l) k c e = go (cell_found l k c) (eqb a.corner k) refl e
  where
    go : (cell_in l k ≡ Some c → CellOf l k c) → (t : Bool) → eqb a.corner k ≡ t
        → cond t (Some a.cell) (cell_in l k) ≡ Some c → CellOf (a ∷ l) k c
    go w true f h = record { label = a; listed = Memᴰ.head refl; its_corner = eqb-true a.corner k f; its_cell = cc }
    go w false f h =
        let r = w h in record { label = r.label; listed = Memᴰ.tail r.listed; its_corner = r.its_corner; its_cell = r.its_cell }

pub not_found : (l : List Placed) (k : ℕ) → cell_in l k ≡ None → (a : Placed) → Memᴰ a l → a.corner ≡ k → ⊥
unfolding cell_in
not_found [] k e a m d = Memᴰ.not-nil m
not_found (b ∷ l) k e a m d = go (λ h n. not_found l k h a n d) (eqb b.corner k) refl e (Memᴰ.cases_cons m)
  where
    go : (cell_in l k ≡ None → Memᴰ a l → ⊥) → (t : Bool) → eqb b.corner k ≡ t
        → cond t (Some b.cell) (cell_in l k) ≡ None → (a ≡ b) ⊎ Memᴰ a l → ⊥
    go w true f h n = let z : ◌≡◌ {A = ℕ} 0 1 = cc in omega arith
    go w false f h (inl p) = eqb-false b.corner k f (sym (ap (λ (x : Placed). x.corner) p) ∙ d)
    go w false f h (inr n) = w h n

-- a shared label asks for this shift
record Asks (first second : List Placed) (d : Offset) : Type 0 where
  shared : Shared first second
  its_shift : d ≡ difference_of shared.here.cell shared.there.cell

module _ (first : List Placed) where
  asked_for : (second : List Placed) (d : Offset) → asked (cell_in first) second ≡ Some d → Asks first second d
  unfolding asked asks
  asked_for [] d e = absurd (let z : ◌≡◌ {A = ℕ} 0 1 = cc in omega arith)
  asked_for (b ∷ bs) d e = go (asked_for bs d) (cell_in first b.corner) refl e
    where
      later : Shared first bs → Shared first (b ∷ bs)
      later s =
          record { here = s.here; there = s.there; in_first = s.in_first; in_second = Memᴰ.tail s.in_second; same_corner_holds = s.same_corner_holds }

      go : (asked (cell_in first) bs ≡ Some d → Asks first bs d) → (f : Option Cell) → cell_in first b.corner ≡ f
          → asks f b.cell (asked (cell_in first) bs) ≡ Some d → Asks first (b ∷ bs) d
      go w None p h =
          let r = w h in record { shared = later r.shared; its_shift = r.its_shift }
      go w (Some c) p h =
          let r = cell_found first b.corner c p in
          let q : difference_of c b.cell ≡ d = cc in
          record {
            shared = record { here = r.label; there = b; in_first = r.listed; in_second = Memᴰ.head refl; same_corner_holds = r.its_corner };
            its_shift = sym q ∙ ap (λ (x : Cell). difference_of x b.cell) (sym r.its_cell);
          }

  asked_none : (second : List Placed) → asked (cell_in first) second ≡ None → Shared first second → ⊥
  unfolding asked asks
  asked_none [] e s = Memᴰ.not-nil s.in_second
  asked_none (b ∷ bs) e s = go (asked_none bs) (cell_in first b.corner) refl e (Memᴰ.cases_cons s.in_second)
    where
      go : (asked (cell_in first) bs ≡ None → Shared first bs → ⊥) → (f : Option Cell) → cell_in first b.corner ≡ f
          → asks f b.cell (asked (cell_in first) bs) ≡ None → (s.there ≡ b) ⊎ Memᴰ s.there bs → ⊥
      go w (Some c) p h m = let z : ◌≡◌ {A = ℕ} 0 1 = cc in omega arith
      go w None p h (inl q) = not_found first b.corner p s.here s.in_first (s.same_corner_holds ∙ ap (λ (x : Placed). x.corner) q)
      go w None p h (inr m) =
          w h (record { here = s.here; there = s.there; in_first = s.in_first; in_second = m; same_corner_holds = s.same_corner_holds })

-- ---- the shift is the only one

-- a shift that fits is the one that a shared label asks for
asks_fit : {first second : List Placed} (s : Shared first second) (e : Offset) → Fits first second e → difference_of s.here.cell s.there.cell ≡ e
asks_fit s e f =
    ap (λ (c : Cell). difference_of c s.there.cell) (f.one_cell s.here s.there s.in_first s.in_second s.same_corner_holds)
    ∙ difference_moved s.there.cell e

-- "with a corner in common the shift is the only one"
pub one_shift : OneShift
one_shift first second s d e f g = sym (asks_fit s d f) ∙ asks_fit s e g

-- ---- the verdict says what the rule says

abbrev fit : List Placed → List Placed → Offset → Bool
fit first second d = every (agrees_in first) (map (shifted_by d) second)

abbrev onto : List Placed → Offset → Bool
onto second d = every (λ l. on_sheet l.cell) (map (shifted_by d) second)

pub verdict_means : (first second : List Placed) → Meaning first second (verdict first second)
unfolding verdict told tested
verdict_means first second = go (asked (cell_in first) second) refl
  where
    test : (d : Offset) → Asks first second d → (t u : Bool) → fit first second d ≡ t → onto second d ≡ u
        → Meaning first second (cond t (cond u (Ok d) (Err Unjoinable.Off)) (Err Unjoinable.Clash))
    test d a true true p q = (a.shared, record { fits = test_fits first second d p; onto = test_onto first second d q })
    test d a true false p q = (
      a.shared,
      record { shift = d; fits = test_fits first second d p; leaves = λ o. no_both (onto second d) (onto_test first second d o) q },
    )
    test d a false u p q = (
      a.shared,
      λ e f. no_both (fit first second d) (fits_test first second d (subst (Fits first second) (sym (asks_fit a.shared e f) ∙ sym a.its_shift) f)) p,
    )

    go : (r : Option Offset) → asked (cell_in first) second ≡ r → Meaning first second (told (agrees_in first) second r)
    go None e = asked_none first second e
    go (Some d) e = test d (asked_for first second d e) (fit first second d) (onto second d) refl refl

-- the only shift does not go onto the sheet and off it
on_and_off : {first second : List Placed} → Shared first second → FitsOff first second → (d : Offset) → Shift first second d → ⊥
on_and_off {first} {second} s o d h = o.leaves (subst (OntoSheet second) (one_shift first second s d o.shift h.fits o.fits) h.onto)

-- no two cases mean the same
pub one_verdict : (first second : List Placed) (v w : Verdict) → Meaning first second v → Meaning first second w → v ≡ w
one_verdict first second (Err Unjoinable.Apart) (Err Unjoinable.Apart) m n = refl
one_verdict first second (Err Unjoinable.Apart) (Err Unjoinable.Clash) m n = absurd (m n.0)
one_verdict first second (Err Unjoinable.Apart) (Err Unjoinable.Off) m n = absurd (m n.0)
one_verdict first second (Err Unjoinable.Apart) (Ok e) m n = absurd (m n.0)
one_verdict first second (Err Unjoinable.Clash) (Err Unjoinable.Apart) m n = absurd (n m.0)
one_verdict first second (Err Unjoinable.Clash) (Err Unjoinable.Clash) m n = refl
one_verdict first second (Err Unjoinable.Clash) (Err Unjoinable.Off) m n = absurd (m.1 n.1.shift n.1.fits)
one_verdict first second (Err Unjoinable.Clash) (Ok e) m n = absurd (m.1 e n.1.fits)
one_verdict first second (Err Unjoinable.Off) (Err Unjoinable.Apart) m n = absurd (n m.0)
one_verdict first second (Err Unjoinable.Off) (Err Unjoinable.Clash) m n = absurd (n.1 m.1.shift m.1.fits)
one_verdict first second (Err Unjoinable.Off) (Err Unjoinable.Off) m n = refl
one_verdict first second (Err Unjoinable.Off) (Ok e) m n = absurd (on_and_off m.0 m.1 e n.1)
one_verdict first second (Ok d) (Err Unjoinable.Apart) m n = absurd (n m.0)
one_verdict first second (Ok d) (Err Unjoinable.Clash) m n = absurd (n.1 d m.1.fits)
one_verdict first second (Ok d) (Err Unjoinable.Off) m n = absurd (on_and_off m.0 n.1 d m.1)
one_verdict first second (Ok d) (Ok e) m n = ap Ok (one_shift first second m.0 d e m.1.fits n.1.fits)

-- "8 if no corner is in both sets, 9 if no shift gives every shared corner one cell and every cell one corner, then 4 if that shift takes a
-- label off the sheet"
pub exactly : (first second : List Placed) (v : Verdict) → Meaning first second v → verdict first second ≡ v
exactly first second v m = one_verdict first second (verdict first second) v (verdict_means first second) m

pub meant : (first second : List Placed) (v : Verdict) → verdict first second ≡ v → Meaning first second v
meant first second v e = subst (Meaning first second) e (verdict_means first second)

pub verdict_exactly_if : VerdictExactlyIf
verdict_exactly_if first second v = (meant first second v, exactly first second v)
