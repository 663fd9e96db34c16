-- "Corner order still decides nothing": the join of two sets with the corners numbered otherwise, refusals included. Assumes nothing.
use Rattle.std.specs.Prelude.{Option, Ok, Err}
use mathlib.Core.Path.{◌≡◌, refl, sym, ap, ◌∙◌, subst}
use mathlib.Core.Bool.{Bool, true, false, cond, not}
use mathlib.Core.List.Memᴰ
use mathlib.Core.List.{List, [], ◌∷◌, ◌++◌, map, map-append, map-map, Memᴰ}
use Prim.Native.Nat.{ℕ}
use borrow.Author.Tests.{eq-eqb, ne_eqb, eqb-true, eqb-false}
use lib.Dec.{eqb}
use Rattle.sheet.specs.Cells.{OnSheet, moved}
use Rattle.sheet.specs.declared.Offset.{Offset}
use Rattle.sheet.specs.declared.Cell.{Cell}
use Rattle.join.specs.declared.Unjoinable.{Unjoinable}
use Rattle.join.specs.Rule.{Verdict, Placed, shifted_by, Shared, Fits, OntoSheet, Meaning, renamed, Renumbered}
use Rattle.join.specs.Join.{kept, cell_in, verdict, is_found, new_by, union, Joined, joined_by, joined, join_renamed, CornerOrderAlike}
use Rattle.join.proofs.Meaning.{verdict_means, exactly}

-- ---- the rule carries over

module _ (ren : ℕ → ℕ) (first second first' second' : List Placed) (r : Renumbered ren first second first' second') where
  -- of two labels of the new sets, by their originals
  by_pair : (P : Placed → Placed → Type 0) → ((a b : Placed) → Memᴰ a first → Memᴰ b second → P (renamed ren a) (renamed ren b))
      → (a b : Placed) → Memᴰ a first' → Memᴰ b second' → P a b
  by_pair P h a b m n =
      let x = r.first_from a m in
      let y = r.second_from b n in
      subst (λ (z : Placed). P z b) x.counterpart
      (subst (P (renamed ren x.label)) y.counterpart (h x.label y.label x.listed y.listed))

  shared_to : Shared first second → Shared first' second'
  shared_to s =
      record {
        here = renamed ren s.here;
        there = renamed ren s.there;
        in_first = r.first_to s.here s.in_first;
        in_second = r.second_to s.there s.in_second;
        same_corner_holds = ap ren s.same_corner_holds;
      }

  shared_from : Shared first' second' → Shared first second
  shared_from s =
      by_pair (λ a b. a.corner ≡ b.corner → Shared first second)
      (λ a b m n e. record { here = a; there = b; in_first = m; in_second = n; same_corner_holds = r.one_to_one a b m n e })
      s.here s.there s.in_first s.in_second s.same_corner_holds

  fits_to : (d : Offset) → Fits first second d → Fits first' second' d
  fits_to d f =
      record {
        one_cell = by_pair (λ a b. a.corner ≡ b.corner → a.cell ≡ moved b.cell d)
            (λ a b m n e. f.one_cell a b m n (r.one_to_one a b m n e));
        one_corner = by_pair (λ a b. a.cell ≡ moved b.cell d → a.corner ≡ b.corner) (λ a b m n e. ap ren (f.one_corner a b m n e));
      }

  fits_from : (d : Offset) → Fits first' second' d → Fits first second d
  fits_from d f =
      record {
        one_cell = λ a b m n e. f.one_cell (renamed ren a) (renamed ren b) (r.first_to a m) (r.second_to b n) (ap ren e);
        one_corner = λ a b m n e. r.one_to_one a b m n (f.one_corner (renamed ren a) (renamed ren b) (r.first_to a m) (r.second_to b n) e);
      }

  onto_to : (d : Offset) → OntoSheet second d → OntoSheet second' d
  onto_to d o =
      record {
        on = λ b n. let y = r.second_from b n in subst (λ (z : Placed). OnSheet (moved z.cell d)) y.counterpart (o.on y.label y.listed);
      }

  onto_from : (d : Offset) → OntoSheet second' d → OntoSheet second d
  onto_from d o = record { on = λ b n. o.on (renamed ren b) (r.second_to b n) }

  meaning_to : (v : Verdict) → Meaning first second v → Meaning first' second' v
  meaning_to (Err Unjoinable.Apart) m = λ s. m (shared_from s)
  meaning_to (Err Unjoinable.Clash) m = (shared_to m.0, λ d f. m.1 d (fits_from d f))
  meaning_to (Err Unjoinable.Off) m = (
    shared_to m.0,
    record { shift = m.1.shift; fits = fits_to m.1.shift m.1.fits; leaves = λ o. m.1.leaves (onto_from m.1.shift o) },
  )
  meaning_to (Ok d) m = (shared_to m.0, record { fits = fits_to d m.1.fits; onto = onto_to d m.1.onto })

  -- the verdict is the same: 8, 9, 4, and the shift
  pub same_verdict : verdict first' second' ≡ verdict first second
  same_verdict = exactly first' second' (verdict first second) (meaning_to (verdict first second) (verdict_means first second))

-- ---- lists kept and mapped

kept_map : {A B : Type 0} (g : A → B) (p : B → Bool) (q : A → Bool) (l : List A) → ((a : A) → Memᴰ a l → p (g a) ≡ q a)
    → kept p (map g l) ≡ map g (kept q l)
unfolding kept
kept_map g p q [] h = refl
kept_map g p q (a ∷ l) h = rw (h a (Memᴰ.head refl)) (go (q a) (kept_map g p q l (λ b m. h b (Memᴰ.tail m))))
  where
    go : (t : Bool) → kept p (map g l) ≡ map g (kept q l)
        → cond t (g a ∷ kept p (map g l)) (kept p (map g l)) ≡ map g (cond t (a ∷ kept q l) (kept q l))
    go true w = ap (λ (r : List _). g a ∷ r) w
    go false w = w

-- ---- the lists with every corner renumbered

-- a label whose corner a set has not
abbrev new_to : List Placed → Placed → Bool
new_to first l = not (is_found (cell_in first l.corner))

module _ (ren : ℕ → ℕ) where
  same_test : (j k : ℕ) → (ren j ≡ ren k → j ≡ k) → eqb (ren j) (ren k) ≡ eqb j k
  same_test j k h = go (eqb j k) refl
    where
      go : (t : Bool) → eqb j k ≡ t → eqb (ren j) (ren k) ≡ t
      go true e = eq-eqb (ren j) (ren k) (ap ren (eqb-true j k e))
      go false e = ne_eqb (ren j) (ren k) (λ f. eqb-false j k e (h f))

  found_same : (l : List Placed) (k : ℕ) → ((a : Placed) → Memᴰ a l → ren a.corner ≡ ren k → a.corner ≡ k)
      → cell_in (map (renamed ren) l) (ren k) ≡ cell_in l k
  unfolding cell_in
  found_same [] k h = refl
  found_same (a ∷ l) k h = rw (same_test a.corner k (h a (Memᴰ.head refl)), found_same l k (λ b m. h b (Memᴰ.tail m))) refl

  module _
      (first second : List Placed)
      (one : (a b : Placed) → Memᴰ a first → Memᴰ b second → ren a.corner ≡ ren b.corner → a.corner ≡ b.corner)
    where
      mapped : Renumbered ren first second (map (renamed ren) first) (map (renamed ren) second)
      mapped =
          record {
            first_to = λ a m. Memᴰ.map (renamed ren) m;
            first_from = λ a m. let x = Memᴰ.of_map (renamed ren) first m in record { label = x.0; listed = x.1; counterpart = x.2 };
            second_to = λ a m. Memᴰ.map (renamed ren) m;
            second_from = λ a m. let x = Memᴰ.of_map (renamed ren) second m in record { label = x.0; listed = x.1; counterpart = x.2 };
            one_to_one = one;
          }

      union_renamed : (d : Offset) → union (map (renamed ren) first) (map (renamed ren) second) d ≡ map (renamed ren) (union first second d)
      unfolding union new_by
      union_renamed d =
          ap (λ (l : List Placed). map (renamed ren) first ++ l)
          (ap (kept (new_to (map (renamed ren) first))) (map-map (shifted_by d) (renamed ren) second ∙ sym (map-map (renamed ren) (shifted_by d) second))
          ∙ kept_map (renamed ren) (new_to (map (renamed ren) first)) (new_to first) (map (shifted_by d) second)
          (λ l m. ap (λ (x : Option Cell). not (is_found x)) (same l (Memᴰ.of_map (shifted_by d) second m))))
          ∙ sym (map-append (renamed ren) first _)
        where
          same : (l : Placed) → (b : Placed) × Memᴰ b second × (shifted_by d b ≡ l)
              → cell_in (map (renamed ren) first) (ren l.corner) ≡ cell_in first l.corner
          same l s =
              subst (λ (x : Placed). cell_in (map (renamed ren) first) (ren x.corner) ≡ cell_in first x.corner) s.2
              (found_same first s.0.corner (λ a m. one a s.0 m s.1))

      join_renamed_lem : joined (map (renamed ren) first) (map (renamed ren) second) ≡ join_renamed ren (joined first second)
      unfolding joined join_renamed joined_by
      join_renamed_lem =
          ap (joined_by (map (renamed ren) first) (map (renamed ren) second)) (same_verdict ren first second _ _ mapped) ∙ go (verdict first second)
        where
          go : (v : Verdict) → joined_by (map (renamed ren) first) (map (renamed ren) second) v ≡ join_renamed ren (joined_by first second v)
          go (Err Unjoinable.Apart) = refl
          go (Err Unjoinable.Clash) = refl
          go (Err Unjoinable.Off) = refl
          go (Ok d) = ap Joined.union_of (union_renamed d)

-- "Corner order still decides nothing."
pub joined_renamed : CornerOrderAlike
joined_renamed ren first second one = join_renamed_lem ren first second one
