-- A test that antt computes at every number below a limit, and its answer at each. Assumes nothing.
use mathlib.Core.Path.{◌≡◌, refl, sym, ap, ap₂, ◌∙◌}
use mathlib.Core.Bool.{Bool, true, false, true≢false, cond}
use mathlib.Core.List.{List, [], ◌∷◌}
use Prim.Native.Nat.{ℕ, zero, suc, ◌<◌}
use native.Mathlib.Nat.{not-suc-le-zero}
use native.Mathlib.Decide.{ℕ_discrete}
use native.Mathlib.Omega.{arith}
use borrow.Author.Tests.{eqb-true}
use lib.Dec.{eqb}

pub first_true : (a b : Bool) → cond a b false ≡ true → a ≡ true
first_true true b e = refl
first_true false b e = e

pub second_true : (a b : Bool) → cond a b false ≡ true → b ≡ true
second_true true b e = e
second_true false b e = absurd (true≢false (sym e))

abbrev pub every_below : ℕ → (ℕ → Bool) → Bool
every_below zero f = true
every_below (suc n) f = cond (f n) (every_below n f) false

pub every_at : (f : ℕ → Bool) (n : ℕ) → every_below n f ≡ true → (k : ℕ) → k < n → f k ≡ true
every_at f zero e k h = absurd (not-suc-le-zero h)
every_at f (suc n) e k h = go (λ l. every_at f n (second_true (f n) (every_below n f) e) k l) (ℕ_discrete k n)
  where
    go : (k < n → f k ≡ true) → Dec (k ≡ n) → f k ≡ true
    go below (yes d) = ap f d ∙ first_true (f n) (every_below n f) e
    go below (no d) = below (omega arith)

abbrev pub same_list : List ℕ → List ℕ → Bool
same_list [] [] = true
same_list [] (y ∷ ys) = false
same_list (x ∷ xs) [] = false
same_list (x ∷ xs) (y ∷ ys) = cond (eqb x y) (same_list xs ys) false

pub same_list_holds : (xs ys : List ℕ) → same_list xs ys ≡ true → xs ≡ ys
same_list_holds [] [] e = refl
same_list_holds [] (y ∷ ys) e = absurd (true≢false (sym e))
same_list_holds (x ∷ xs) [] e = absurd (true≢false (sym e))
same_list_holds (x ∷ xs) (y ∷ ys) e = ap₂ ◌∷◌ (eqb-true x y (first_true (eqb x y) (same_list xs ys) e)) (same_list_holds xs ys (second_true (eqb x y) (same_list xs ys) e))
