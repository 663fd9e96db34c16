-- The 4 nearest: `nearer` tests the order that document 01 gives, which is one of numbers, so strict and total on the places of the sheet; and
-- `supports_of` is the 4 nearest by it, and nothing else is. Assumes nothing.
use mathlib.Core.Path.{◌≡◌, refl, sym, ap, ap₂, ◌∙◌, subst}
use mathlib.Core.Bool.{Bool, true, false, cond, ◌&&◌, ◌||◌, true≢false}
use mathlib.Core.List.Memᴰ
use mathlib.Core.List.{List, [], ◌∷◌, Memᴰ}
use mathlib.Core.Logic.{◌⊎◌, inl, inr, ⊎_elim}
use Prim.Native.Nat.{ℕ, zero, suc, ◌+◌, ◌*◌, ◌<◌, ◌≤◌, min}
use native.Mathlib.Decide.{ℕ_discrete}
use native.Mathlib.Omega.{arith}
use borrow.Author.Tests.{lt-ltb, le-ltb, eq-eqb, ltb-true, ltb-false, eqb-true, eqb-false}
use lib.Dec.{T, ltb, eqb}
use lib.ListN.{length, get_or, take, length-take}
use lib.Signed.{lt_z, lt_z_yes}
use Rattle.sheet.specs.Cells.{cell_of, eq_z, earlier}
use Rattle.sheet.specs.declared.Cell.{Cell}
use Rattle.sheet.proofs.Words as words
use Rattle.sheet.proofs.Laws.{cell_on_lem, place_cell, place_rises, eq_z_equal, equal_eq_z}
use Rattle.labels.specs.Labelled.{Rising, labelled_places, label_count}
use Rattle.labels.proofs.Labelled.{places_rise, places_in_lem, listed_place, listed_cell, cell_listed}
use Rattle.passes.specs.Local.{reach_of, nearer, placed, by_reach, supports_of}
use Rattle.passes.specs.Nearest.{LabelledPlace, Nearer, by_reach_holds, by_i, by_j, Tested, Ordering, NearestFirst, FourNearest, SupportsAreNearest}

-- ---- the test is the order

module _ (c : Cell) (p q : ℕ) where
  pub nearer_so : nearer c p q ≡ true → Nearer c p q
  unfolding nearer
  nearer_so e =
      go (ltb (reach_of c p) (reach_of c q)) refl (eqb (reach_of c p) (reach_of c q)) refl (lt_z (cell_of p).i (cell_of q).i) refl (eq_z (cell_of p).i (cell_of q).i) refl
      (lt_z (cell_of p).j (cell_of q).j) refl e
    where
      go : (r : Bool) → ltb (reach_of c p) (reach_of c q) ≡ r → (s : Bool) → eqb (reach_of c p) (reach_of c q) ≡ s → (t : Bool) → lt_z (cell_of p).i (cell_of q).i ≡ t
          → (u : Bool) → eq_z (cell_of p).i (cell_of q).i ≡ u → (v : Bool) → lt_z (cell_of p).j (cell_of q).j ≡ v → (r || (s && (t || (u && v)))) ≡ true → Nearer c p q
      go true f s g t h u k v l e = by_reach_holds (ltb-true (reach_of c p) (reach_of c q) f)
      go false f true g true h u k v l e = by_i (eqb-true (reach_of c p) (reach_of c q) g) (lt_z_yes (subst T (sym h) tt))
      go false f true g false h true k true l e =
          by_j (eqb-true (reach_of c p) (reach_of c q) g) (eq_z_equal (cell_of p).i (cell_of q).i k) (lt_z_yes (subst T (sym l) tt))
      go false f true g false h true k false l e = absurd (true≢false (sym e))
      go false f true g false h false k v l e = absurd (true≢false (sym e))
      go false f false g t h u k v l e = absurd (true≢false (sym e))

  pub so_nearer : Nearer c p q → nearer c p q ≡ true
  unfolding nearer
  so_nearer (by_reach_holds h) = rw (lt-ltb (reach_of c p) (reach_of c q) h)
  so_nearer (by_i e h) =
      rw (le-ltb (reach_of c p) (reach_of c q) (omega arith), eq-eqb (reach_of c p) (reach_of c q) e, words.yes (lt_z (cell_of p).i (cell_of q).i) h.lt)
  so_nearer (by_j e f h) =
      rw (
        le-ltb (reach_of c p) (reach_of c q) (omega arith),
        eq-eqb (reach_of c p) (reach_of c q) e,
        equal_eq_z (cell_of p).i (cell_of q).i f,
        words.yes (lt_z (cell_of p).j (cell_of q).j) h.lt,
      )
      (go (lt_z (cell_of p).i (cell_of q).i))
    where
      go : (t : Bool) → (t || true) ≡ true
      go true = refl
      go false = refl

pub tested : Tested
tested c p q = (nearer_so c p q, so_nearer c p q)

-- ---- the order is one of numbers

-- by reach, then by place
abbrev pub rank : Cell → ℕ → ℕ
rank c p = reach_of c p * 16384 + p

-- places rise by i, then j
pub earlier_places : (p q : ℕ) → p < 16384 → q < 16384 → earlier (cell_of p) (cell_of q) ≡ ltb p q
earlier_places p q h k =
    sym (place_rises (cell_of p) (cell_of q) (cell_on_lem p h) (cell_on_lem q k)) ∙ rw (place_cell p h, place_cell q k)

pub nearer_rank : (c : Cell) (p q : ℕ) → p < 16384 → q < 16384 → nearer c p q ≡ ltb (rank c p) (rank c q)
unfolding nearer
nearer_rank c p q h k = rw (earlier_places p q h k) (go (reach_of c p) (reach_of c q) (ltb (reach_of c p) (reach_of c q)) refl (eqb (reach_of c p) (reach_of c q)) refl (ltb p q) refl)
  where
    go : (a b : ℕ) (t : Bool) → ltb a b ≡ t → (u : Bool) → eqb a b ≡ u → (v : Bool) → ltb p q ≡ v → (t || (u && v)) ≡ ltb (a * 16384 + p) (b * 16384 + q)
    go a b true e u f v g = sym (lt-ltb (a * 16384 + p) (b * 16384 + q) (omega (arith, ltb-true a b e)))
    go a b false e true f true g = sym (lt-ltb (a * 16384 + p) (b * 16384 + q) (omega (arith, eqb-true a b f, ltb-true p q g)))
    go a b false e true f false g = sym (le-ltb (a * 16384 + p) (b * 16384 + q) (omega (arith, eqb-true a b f, ltb-false p q g)))
    go a b false e false f v g = sym (le-ltb (a * 16384 + p) (b * 16384 + q) (omega (arith, ltb-false a b e, eqb-false a b f)))

module _ (c : Cell) (p q : ℕ) (h : p < 16384) (k : q < 16384) where
  pub rank_less : nearer c p q ≡ true → rank c p < rank c q
  rank_less e = ltb-true (rank c p) (rank c q) (sym (nearer_rank c p q h k) ∙ e)

  pub rank_least : nearer c p q ≡ false → rank c q ≤ rank c p
  rank_least e = ltb-false (rank c p) (rank c q) (sym (nearer_rank c p q h k) ∙ e)

  by_rank : rank c p < rank c q → Nearer c p q
  by_rank l = nearer_so c p q (nearer_rank c p q h k ∙ lt-ltb (rank c p) (rank c q) l)

  ranked : Nearer c p q → rank c p < rank c q
  ranked n = rank_less (so_nearer c p q n)

pub ordering : (c : Cell) → Ordering c
ordering c =
    record {
      strict = λ p q h k m n. omega (arith, ranked c p q h k m, ranked c q p k h n);
      total = λ p q h k d. one p q h k d (ltb (rank c p) (rank c q)) refl;
      chain = λ p q r h k l m n. by_rank c p r h l (omega (arith, ranked c p q h k m, ranked c q r k l n));
    }
  where
    one : (p q : ℕ) → p < 16384 → q < 16384 → (p ≡ q → ⊥) → (t : Bool) → ltb (rank c p) (rank c q) ≡ t → Nearer c p q ⊎ Nearer c q p
    one p q h k d true e = inl (by_rank c p q h k (ltb-true (rank c p) (rank c q) e))
    one p q h k d false e = inr (by_rank c q p k h (omega (arith, ltb-false (rank c p) (rank c q) e, d)))

-- what is nearer is not farther
pub nearer_reach : {c : Cell} {p q : ℕ} → Nearer c p q → reach_of c p ≤ reach_of c q
nearer_reach (by_reach_holds h) = omega arith
nearer_reach (by_i e h) = omega arith
nearer_reach (by_j e f h) = omega arith

-- no place is nearer than itself
not_itself : (c : Cell) (p : ℕ) → p < 16384 → Nearer c p p → ⊥
not_itself c p h n = omega (arith, ranked c p p h h n)

-- ---- a list by reach

-- places of the sheet, none of which stands twice
pub data Apart : List ℕ → Type 0 where
  none : Apart []
  one : {p : ℕ} {ps : List ℕ} → p < 16384 → (Memᴰ p ps → ⊥) → Apart ps → Apart (p ∷ ps)

above : (p : ℕ) (l : List ℕ) → ((a : ℕ) → a < length l → p < get_or l a 0) → (q : ℕ) → Memᴰ q l → p < q
above p [] h q m = absurd (Memᴰ.not-nil m)
above p (r ∷ rs) h q m = ⊎_elim (λ e. subst (λ (x : ℕ). p < x) (sym e) (h 0 (omega arith))) (λ n. above p rs (λ a l. h (suc a) (omega arith)) q n) (Memᴰ.cases_cons m)

-- places that rise
pub rising_apart : (l : List ℕ) → Rising l → ((a : ℕ) → a < length l → get_or l a 0 < 16384) → Apart l
rising_apart [] r h = none
rising_apart (p ∷ ps) r h =
    one (h 0 (omega arith)) twice
    (rising_apart ps (record { rises = λ a b l m. r.rises (suc a) (suc b) (omega arith) (omega arith) }) (λ a l. h (suc a) (omega arith)))
  where
    twice : Memᴰ p ps → ⊥
    twice m = omega (arith, above p ps (λ a l. r.rises 0 (suc a) (omega arith) (omega arith)) p m)

apart_on : (l : List ℕ) → Apart l → (q : ℕ) → Memᴰ q l → q < 16384
apart_on [] none q m = absurd (Memᴰ.not-nil m)
apart_on (p ∷ ps) (one h new a) q m = ⊎_elim (λ e. subst (λ (x : ℕ). x < 16384) (sym e) h) (apart_on ps a q) (Memᴰ.cases_cons m)

module _ (c : Cell) where
  placed_length : (p : ℕ) (l : List ℕ) → length (placed c p l) ≡ suc (length l)
  unfolding placed
  placed_length p [] = refl
  placed_length p (q ∷ qs) = go (nearer c p q) (placed_length p qs)
    where
      go : (t : Bool) → length (placed c p qs) ≡ suc (length qs) → length (cond t (p ∷ q ∷ qs) (q ∷ placed c p qs)) ≡ suc (suc (length qs))
      go true w = refl
      go false w = ap suc w

  pub by_reach_length : (l : List ℕ) → length (by_reach c l) ≡ length l
  unfolding by_reach
  by_reach_length [] = refl
  by_reach_length (p ∷ ps) = placed_length p (by_reach c ps) ∙ ap suc (by_reach_length ps)

  -- the members of a list with one more in it
  placed_in : (x p : ℕ) (l : List ℕ) → Memᴰ x (placed c p l) → (x ≡ p) ⊎ Memᴰ x l
  unfolding placed
  placed_in x p [] m = Memᴰ.cases_cons m
  placed_in x p (q ∷ qs) m = go (placed_in x p qs) (nearer c p q) m
    where
      go : (Memᴰ x (placed c p qs) → (x ≡ p) ⊎ Memᴰ x qs) → (t : Bool) → Memᴰ x (cond t (p ∷ q ∷ qs) (q ∷ placed c p qs)) → (x ≡ p) ⊎ Memᴰ x (q ∷ qs)
      go rest true m = Memᴰ.cases_cons m
      go rest false m = ⊎_elim (λ e. inr (Memᴰ.head e)) (λ n. ⊎_elim inl (λ k. inr (Memᴰ.tail k)) (rest n)) (Memᴰ.cases_cons m)

  in_placed : (x p : ℕ) (l : List ℕ) → (x ≡ p) ⊎ Memᴰ x l → Memᴰ x (placed c p l)
  unfolding placed
  in_placed x p [] m = ⊎_elim Memᴰ.head (λ n. absurd (Memᴰ.not-nil n)) m
  in_placed x p (q ∷ qs) m = go (in_placed x p qs) (nearer c p q) m
    where
      go : ((x ≡ p) ⊎ Memᴰ x qs → Memᴰ x (placed c p qs)) → (t : Bool) → (x ≡ p) ⊎ Memᴰ x (q ∷ qs) → Memᴰ x (cond t (p ∷ q ∷ qs) (q ∷ placed c p qs))
      go rest true m = ⊎_elim Memᴰ.head Memᴰ.tail m
      go rest false (inl e) = Memᴰ.tail (rest (inl e))
      go rest false (inr m) = ⊎_elim Memᴰ.head (λ n. Memᴰ.tail (rest (inr n))) (Memᴰ.cases_cons m)

  pub in_by_reach : (x : ℕ) (l : List ℕ) → Memᴰ x l → Memᴰ x (by_reach c l)
  unfolding by_reach
  in_by_reach x [] m = m
  in_by_reach x (p ∷ ps) m = in_placed x p (by_reach c ps) (⊎_elim inl (λ n. inr (in_by_reach x ps n)) (Memᴰ.cases_cons m))

  pub by_reach_in : (x : ℕ) (l : List ℕ) → Memᴰ x (by_reach c l) → Memᴰ x l
  unfolding by_reach
  by_reach_in x [] m = m
  by_reach_in x (p ∷ ps) m = ⊎_elim Memᴰ.head (λ n. Memᴰ.tail (by_reach_in x ps n)) (placed_in x p (by_reach c ps) m)

  -- it stands in order
  placed_first : (p : ℕ) (l : List ℕ) → p < 16384 → ((q : ℕ) → Memᴰ q l → q < 16384) → (Memᴰ p l → ⊥) → NearestFirst c l → NearestFirst c (placed c p l)
  unfolding placed
  placed_first p [] h on new o = ((λ q m. absurd (Memᴰ.not-nil m)), tt)
  placed_first p (q ∷ qs) h on new o = go (placed_first p qs h (λ x m. on x (Memᴰ.tail m)) (λ m. new (Memᴰ.tail m)) o.1) (nearer c p q) refl
    where
      there : q < 16384
      there = on q (Memᴰ.head refl)

      other : p ≡ q → ⊥
      other e = new (Memᴰ.head e)

      go : NearestFirst c (placed c p qs) → (t : Bool) → nearer c p q ≡ t → NearestFirst c (cond t (p ∷ q ∷ qs) (q ∷ placed c p qs))
      go rest true e = (
        (λ x m. ⊎_elim
            (λ f. subst (Nearer c p) (sym f) (nearer_so c p q e))
            (λ n. (ordering c).chain p q x h there (on x m) (nearer_so c p q e) (o.0 x n)) (Memᴰ.cases_cons m)),
        o,
      )
      go rest false e = (
        (λ x m. ⊎_elim
            (λ f. subst (Nearer c q) (sym f) (by_rank c q p there h (omega (arith, there, rank_least c p q h there e, other))))
            (λ n. o.0 x n) (placed_in x p qs m)),
        rest,
      )

  pub by_reach_first : (l : List ℕ) → Apart l → NearestFirst c (by_reach c l)
  unfolding by_reach
  by_reach_first [] none = tt
  by_reach_first (p ∷ ps) (one h new a) =
      placed_first p (by_reach c ps) h (λ q m. apart_on ps a q (by_reach_in q ps m)) (λ m. new (by_reach_in p ps m)) (by_reach_first ps a)

  -- the first n of a list in order
  take_in : (n : ℕ) (l : List ℕ) (x : ℕ) → Memᴰ x (take n l) → Memᴰ x l
  take_in zero l x m = absurd (Memᴰ.not-nil m)
  take_in (suc n) [] x m = m
  take_in (suc n) (p ∷ ps) x m = ⊎_elim Memᴰ.head (λ k. Memᴰ.tail (take_in n ps x k)) (Memᴰ.cases_cons m)

  pub take_first : (n : ℕ) (l : List ℕ) → NearestFirst c l → NearestFirst c (take n l)
  take_first zero l o = tt
  take_first (suc n) [] o = tt
  take_first (suc n) (p ∷ ps) o = ((λ q m. o.0 q (take_in n ps q m)), take_first n ps o.1)

  take_nearest : (n : ℕ) (l : List ℕ) → NearestFirst c l → (p q : ℕ) → Memᴰ p (take n l) → Memᴰ q l → (Memᴰ q (take n l) → ⊥) → Nearer c p q
  take_nearest zero l o p q m k out = absurd (Memᴰ.not-nil m)
  take_nearest (suc n) [] o p q m k out = absurd (Memᴰ.not-nil m)
  take_nearest (suc n) (r ∷ rs) o p q m k out =
      ⊎_elim (λ e. absurd (out (Memᴰ.head e)))
      (λ l. ⊎_elim (λ e. subst (λ (x : ℕ). Nearer c x q) (sym e) (o.0 q l)) (λ i. take_nearest n rs o.1 p q i l (λ j. out (Memᴰ.tail j))) (Memᴰ.cases_cons m))
      (Memᴰ.cases_cons k)

-- ---- `supports_of` is the 4 nearest

listed : (sheet : List ℕ) (p : ℕ) → Memᴰ p (labelled_places sheet) → LabelledPlace sheet p
listed sheet p m = record { on = (listed_place sheet p m).0; labelled = listed_cell sheet p m }

in_list : (sheet : List ℕ) (p : ℕ) → LabelledPlace sheet p → Memᴰ p (labelled_places sheet)
in_list sheet p l = subst (λ (q : ℕ). Memᴰ q (labelled_places sheet)) (place_cell p l.on) (cell_listed sheet (cell_of p) l.labelled)

module _ (c : Cell) (sheet : List ℕ) where
  apart : Apart (labelled_places sheet)
  apart = rising_apart (labelled_places sheet) (places_rise sheet) (places_in_lem sheet)

  all_on : (q : ℕ) → Memᴰ q (by_reach c (labelled_places sheet)) → q < 16384
  all_on q m = apart_on (labelled_places sheet) apart q (by_reach_in c q (labelled_places sheet) m)

  in_order : NearestFirst c (by_reach c (labelled_places sheet))
  in_order = by_reach_first c (labelled_places sheet) apart

  pub supports_nearest : FourNearest c sheet (supports_of c sheet)
  unfolding supports_of label_count
  supports_nearest =
      record {
        four = length-take 4 (by_reach c (labelled_places sheet)) ∙ ap (min 4) (by_reach_length c (labelled_places sheet));
        labelled = λ p m. listed sheet p (by_reach_in c p (labelled_places sheet) (take_in c 4 (by_reach c (labelled_places sheet)) p m));
        in_order = take_first c 4 (by_reach c (labelled_places sheet)) in_order;
        nearest = λ p q m k out. take_nearest c 4 (by_reach c (labelled_places sheet)) in_order p q m (in_by_reach c q (labelled_places sheet) (in_list sheet q k)) out;
      }

-- ---- and nothing else is

-- membership is decided
among : (q : ℕ) (l : List ℕ) → Dec (Memᴰ q l)
among q [] = no Memᴰ.not-nil
among q (p ∷ ps) = go (ℕ_discrete q p) (among q ps)
  where
    go : Dec (q ≡ p) → Dec (Memᴰ q ps) → Dec (Memᴰ q (p ∷ ps))
    go (yes e) d = yes (Memᴰ.head e)
    go (no e) (yes m) = yes (Memᴰ.tail m)
    go (no e) (no m) = no (λ k. ⊎_elim e m (Memᴰ.cases_cons k))

-- of a list in order, some in order that are nearer than all others are the first
firsts : (c : Cell) (l b : List ℕ) → ((q : ℕ) → Memᴰ q b → q < 16384) → NearestFirst c l → NearestFirst c b → ((p : ℕ) → Memᴰ p l → Memᴰ p b)
    → ((p q : ℕ) → Memᴰ p l → Memᴰ q b → (Memᴰ q l → ⊥) → Nearer c p q) → l ≡ take (length l) b
firsts c [] b on o u inside nearest = refl
firsts c (p ∷ ps) [] on o u inside nearest = absurd (Memᴰ.not-nil (inside p (Memᴰ.head refl)))
firsts c (p ∷ ps) (q ∷ qs) on o u inside nearest = ap₂ ◌∷◌ same (firsts c ps qs (λ x m. on x (Memᴰ.tail m)) o.1 u.1 rest others)
  where
    p_on : p < 16384
    p_on = on p (inside p (Memᴰ.head refl))

    q_on : q < 16384
    q_on = on q (Memᴰ.head refl)

    -- the first of the one is the first of the other: else each were nearer than the other
    before : Dec (Memᴰ q (p ∷ ps)) → (q ≡ p) ⊎ Nearer c p q
    before (yes m) = ⊎_elim inl (λ k. inr (o.0 q k)) (Memᴰ.cases_cons m)
    before (no m) = inr (nearest p q (Memᴰ.head refl) (Memᴰ.head refl) m)

    same : p ≡ q
    same =
        ⊎_elim (λ e. e)
        (λ k. ⊎_elim sym (λ n. absurd ((ordering c).strict p q p_on q_on n (u.0 p k))) (before (among q (p ∷ ps))))
        (Memᴰ.cases_cons (inside p (Memᴰ.head refl)))

    rest : (x : ℕ) → Memᴰ x ps → Memᴰ x qs
    rest x m =
        ⊎_elim (λ e. absurd (not_itself c p p_on (subst (Nearer c p) (e ∙ sym same) (o.0 x m)))) (λ k. k)
        (Memᴰ.cases_cons (inside x (Memᴰ.tail m)))

    others : (x y : ℕ) → Memᴰ x ps → Memᴰ y qs → (Memᴰ y ps → ⊥) → Nearer c x y
    others x y m k out =
        nearest x y (Memᴰ.tail m) (Memᴰ.tail k)
        (λ n. ⊎_elim (λ e. not_itself c q q_on (subst (Nearer c q) (e ∙ same) (u.0 y k))) out (Memᴰ.cases_cons n))

-- the first n, counted
take_counted : (n : ℕ) (l : List ℕ) → take (length (take n l)) l ≡ take n l
take_counted zero l = refl
take_counted (suc n) [] = refl
take_counted (suc n) (p ∷ ps) = ap (λ (l : List ℕ). p ∷ l) (take_counted n ps)

pub nearest_only : (c : Cell) (sheet l : List ℕ) → FourNearest c sheet l → l ≡ supports_of c sheet
unfolding supports_of
nearest_only c sheet l f =
    firsts c l (by_reach c (labelled_places sheet)) (all_on c sheet) f.in_order (in_order c sheet) (λ p m. in_by_reach c p (labelled_places sheet) (in_list sheet p (f.labelled p m)))
    (λ p q m k out. f.nearest p q m (listed sheet q (by_reach_in c q (labelled_places sheet) k)) out)
    ∙ ap (λ (n : ℕ). take n (by_reach c (labelled_places sheet))) (f.four ∙ sym (supports_nearest c sheet).four)
    ∙ take_counted 4 (by_reach c (labelled_places sheet))

pub supports_are_nearest : SupportsAreNearest
supports_are_nearest c sheet l = (nearest_only c sheet l, λ e. subst (FourNearest c sheet) (sym e) (supports_nearest c sheet))
