-- A place put into a list, farther from a cell than the nearest of it: these stay the nearest. Assumes nothing.
use mathlib.Core.Path.{◌≡◌, refl, sym, ap, ◌∙◌}
use mathlib.Core.Bool.{Bool, true, false, cond}
use mathlib.Core.List.{List, [], ◌∷◌, ◌++◌}
use Prim.Native.Nat.{ℕ, zero, suc, ◌<◌, ◌≤◌}
use native.Mathlib.Nat.{not-suc-le-zero}
use native.Mathlib.Decide.{ℕ_discrete}
use native.Mathlib.Omega.{arith}
use borrow.Author.Tests.{le-ltb, ne_eqb}
use lib.ListN.{length, take}
use Rattle.sheet.specs.declared.Cell.{Cell}
use Rattle.labels.specs.Labelled.{passing}
use Rattle.labels.proofs.Below.{passing_ext}
use Rattle.passes.specs.Local.{reach_of, nearer, placed, by_reach}
use Rattle.passes.proofs.Nearest.{rank_less, rank_least, by_reach_length}
use Rattle.supports.proofs.Nearest.{AllBelow, Under, none, one, under_placed}
use Rattle.remembered.specs.Remembered.{Near, near_more}

-- ---- it is the same which of two places is put in first

module _ (c : Cell) (p q : ℕ) (hp : p < 16384) (hq : q < 16384) (d : p ≡ q → ⊥) where
  apart : (t u : Bool) → nearer c p q ≡ t → nearer c q p ≡ u → cond t (p ∷ q ∷ []) (q ∷ p ∷ []) ≡ cond u (q ∷ p ∷ []) (p ∷ q ∷ [])
  apart true false e f = refl
  apart false true e f = refl
  apart true true e f = absurd (omega (arith, rank_less c p q hp hq e, rank_less c q p hq hp f))
  apart false false e f = absurd (d (omega (arith, rank_least c p q hp hq e, rank_least c q p hq hp f)))

  pub placed_apart : (l : List ℕ) → Under 16384 l → placed c p (placed c q l) ≡ placed c q (placed c p l)
  unfolding placed
  placed_apart [] none = apart (nearer c p q) (nearer c q p) refl refl
  placed_apart (r ∷ rs) (one h u) = go (nearer c p r) refl (nearer c q r) refl (nearer c p q) refl (nearer c q p) refl (placed_apart rs u)
    where
      go : (s : Bool) → nearer c p r ≡ s → (t : Bool) → nearer c q r ≡ t → (v : Bool) → nearer c p q ≡ v → (w : Bool) → nearer c q p ≡ w
          → placed c p (placed c q rs) ≡ placed c q (placed c p rs) → placed c p (placed c q (r ∷ rs)) ≡ placed c q (placed c p (r ∷ rs))
      go true e true f true g true k i = absurd (omega (arith, rank_less c p q hp hq g, rank_less c q p hq hp k))
      go true e true f true g false k i = simp (e, f, g, k)
      go true e true f false g true k i = simp (e, f, g, k)
      go true e true f false g false k i = absurd (d (omega (arith, rank_least c p q hp hq g, rank_least c q p hq hp k)))
      go true e false f v g true k i = absurd (omega (arith, rank_less c p r hp h e, rank_least c q r hq h f, rank_less c q p hq hp k))
      go true e false f v g false k i = simp (e, f, k)
      go false e true f true g w k i = absurd (omega (arith, rank_least c p r hp h e, rank_less c q r hq h f, rank_less c p q hp hq g))
      go false e true f false g w k i = simp (e, f, g)
      go false e false f v g w k i = simp (e, f) (ap (λ (l : List ℕ). r ∷ l) i)

pub placed_swap : (c : Cell) (p q : ℕ) → p < 16384 → q < 16384 → (l : List ℕ) → Under 16384 l → placed c p (placed c q l) ≡ placed c q (placed c p l)
placed_swap c p q hp hq l u = go (ℕ_discrete p q)
  where
    go : Dec (p ≡ q) → placed c p (placed c q l) ≡ placed c q (placed c p l)
    go (yes d) = rw d refl
    go (no d) = placed_apart c p q hp hq d l u

-- ---- a list with one number put in somewhere

pub data Inserted (q : ℕ) : List ℕ → List ℕ → Type 0 where
  here : {l : List ℕ} → Inserted q l (q ∷ l)
  there : {p : ℕ} {l l' : List ℕ} → Inserted q l l' → Inserted q (p ∷ l) (p ∷ l')

inserted_end : (q : ℕ) (l : List ℕ) → Inserted q (l ++ []) (l ++ (q ∷ []))
inserted_end q [] = here
inserted_end q (p ∷ ps) = there (inserted_end q ps)

inserted_before : (q : ℕ) {l l' : List ℕ} (m : List ℕ) → Inserted q l l' → Inserted q (l ++ m) (l' ++ m)
inserted_before q m here = here
inserted_before q m (there i) = there (inserted_before q m i)

-- the numbers that pass, with one more that passes
pub passing_inserted : (f g : ℕ → Bool) (n q : ℕ) → q < n → f q ≡ false → g q ≡ true → ((p : ℕ) → p < n → (p ≡ q → ⊥) → g p ≡ f p) → Inserted q (passing f n) (passing g n)
unfolding passing
passing_inserted f g zero q h a b same = absurd (not-suc-le-zero h)
passing_inserted f g (suc n) q h a b same = go (ℕ_discrete q n) (λ l. passing_inserted f g n q l a b (λ p k. same p (omega arith)))
  where
    go : Dec (q ≡ n) → (q < n → Inserted q (passing f n) (passing g n)) → Inserted q (passing f n ++ cond (f n) (n ∷ []) []) (passing g n ++ cond (g n) (n ∷ []) [])
    go (yes d) w =
        let e : passing g n ≡ passing f n = passing_ext g f n (λ p k. same p (omega arith) (λ z. omega arith)) in
        rw (e, ← d, a, b) (inserted_end q (passing f q))
    go (no d) w =
        let e : g n ≡ f n = same n (omega arith) (λ z. d (sym z)) in
        rw e (inserted_before q (cond (f n) (n ∷ []) []) (w (omega arith)))

-- ---- by reach

pub under_all : (n : ℕ) (l : List ℕ) → AllBelow n l → Under n l
under_all n [] b = none
under_all n (p ∷ ps) b = one (b.below 0 (omega arith)) (under_all n ps (record { below = λ a l. b.below (suc a) (omega arith) }))

pub under_sorted : (n : ℕ) (c : Cell) (l : List ℕ) → Under n l → Under n (by_reach c l)
unfolding by_reach
under_sorted n c [] none = none
under_sorted n c (p ∷ ps) (one h u) = under_placed n c p (by_reach c ps) h (under_sorted n c ps u)

sorted_inserted : (c : Cell) (q : ℕ) → q < 16384 → {l l' : List ℕ} → Inserted q l l' → Under 16384 l → by_reach c l' ≡ placed c q (by_reach c l)
unfolding by_reach
sorted_inserted c q k here u = refl
sorted_inserted c q k (there {p} {l} {l'} i) (one h u) =
    ap (placed c p) (sorted_inserted c q k i u) ∙ placed_swap c p q h k (by_reach c l) (under_sorted 16384 c l u)

-- a place that is farther is not nearer
far_behind : (c : Cell) (p q : ℕ) → reach_of c p < reach_of c q → nearer c q p ≡ false
unfolding nearer
far_behind c p q h = rw (le-ltb (reach_of c q) (reach_of c p) (omega arith), ne_eqb (reach_of c q) (reach_of c p) (λ z. omega arith))

-- the first n stay if the place is farther than they are
take_placed : (c : Cell) (q r n : ℕ) (l : List ℕ) → r < reach_of c q → n ≤ length l → Near c r (take n l) → take n (placed c q l) ≡ take n l
unfolding placed
take_placed c q r zero l far m near = refl
take_placed c q r (suc n) [] far m near = absurd (omega arith)
take_placed c q r (suc n) (p ∷ ps) far m (near_more h near) =
    rw (far_behind c p q (omega arith)) (ap (λ (l : List ℕ). p ∷ l) (take_placed c q r n ps far (omega arith) near))

pub nearest_stay : (c : Cell) (q r n : ℕ) {l l' : List ℕ} → q < 16384 → Inserted q l l' → Under 16384 l → n ≤ length l → Near c r (take n (by_reach c l)) → r < reach_of c q
    → take n (by_reach c l') ≡ take n (by_reach c l)
nearest_stay c q r n {l} h i u m near far =
    ap (take n) (sorted_inserted c q h i u) ∙ take_placed c q r n (by_reach c l) far (omega (arith, by_reach_length c l)) near
