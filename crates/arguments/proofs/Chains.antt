-- Chains of tests, for every crate that has one: tests of which one is enough, and refusals that are tried in order. Assumes nothing.
use Rattle.std.specs.Prelude.{Ok, Err}
use mathlib.Core.Path.{◌≡◌, refl, sym, ap, subst, ◌∙◌}
use mathlib.Core.Bool.{Bool, true, false, ◌||◌}
use mathlib.Core.List.{List, [], ◌∷◌, ◌++◌}
use Prim.Native.Nat.{ℕ, zero, suc, ◌+◌, ◌≤◌}
use native.Mathlib.Numerals.{add-one}
use lib.ListN.{length, get_or, take}
use Rattle.std.specs.List.{list_any, range_with_len}
use Rattle.std.proofs.Math.Bool.{or_comm}
use Rattle.std.proofs.lemmas.List.{map-id}
use Rattle.std.proofs.lemmas.List.Folds.{list_any-append, list_any_more}
use Rattle.std.proofs.lemmas.List.FromFn.{map-range_with_len_more}
use Rattle.labels.specs.Labelled.{any_below}
use native.Mathlib.Omega.{arith}
use Rattle.refusal.specs.declared.Refusal.{Refusal}
use Rattle.labels.proofs.Below.{no_both, any_start, any_more}
use Rattle.arguments.specs.Arguments.{Checked, refused_if}

-- ---- tests of which one is enough: none holds

pub or_false : (a b : Bool) → a ≡ false → b ≡ false → (a || b) ≡ false
or_false a b e f = rw e f

pub or_false_both : (a b : Bool) → (a || b) ≡ false → (a ≡ false) × (b ≡ false)
or_false_both true b e = absurd (no_both true refl e)
or_false_both false b e = (refl, e)

-- ---- a test of each item, as an iterator makes them

-- one more number
any_by_one : (f : ℕ → Bool) (n : ℕ) (b : Bool) → b ≡ any_below n f → (b || f n) ≡ any_below (n + 1) f
any_by_one f n b e = rw e (or_comm (any_below n f) (f n) ∙ sym (any_more f n))

-- of the first n items of a list
pub any_listed : (test : ℕ → Bool) (xs : List ℕ) (n : ℕ) → n ≤ length xs → list_any test (take n xs) ≡ any_below n (λ k. test (get_or xs k 0))
any_listed test xs zero h = sym (any_start _)
any_listed test xs (suc n) h =
    rw (← add-one) (list_any_more test xs n 0 (omega arith) ∙ any_by_one _ n _ (any_listed test xs n (omega arith)))

-- of the numbers below n
pub any_counted : (test : ℕ → Bool) (n : ℕ) → list_any test (range_with_len 0 n) ≡ any_below n test
any_counted test zero = sym (any_start _)
any_counted test (suc n) =
    subst (λ (m : ℕ). list_any test (range_with_len 0 m) ≡ any_below m test) (add-one n)
    (ap (list_any test) (range_more n) ∙ list_any-append test (range_with_len 0 n) (n ∷ []) ∙ or_false_right _ _ ∙ any_by_one test n _ (any_counted test n))
  where
    range_more : (n : ℕ) → range_with_len 0 (n + 1) ≡ range_with_len 0 n ++ (n ∷ [])
    range_more n = sym (map-id _) ∙ map-range_with_len_more (λ (k : ℕ). k) 0 n n (omega arith) ∙ ap (λ l. l ++ (n ∷ [])) (map-id _)

    or_false_right : (b c : Bool) → (b || (c || false)) ≡ (b || c)
    or_false_right true c = refl
    or_false_right false true = refl
    or_false_right false false = refl

-- ---- refusals in order

-- this test refuses; it does not, and the rest says t
pub refused : (b : Bool) (r : Refusal) (rest : Checked) → b ≡ true → Err r ≡ refused_if b r rest
refused b r rest e = rw e

pub passed : (b : Bool) (r : Refusal) (rest t : Checked) → b ≡ false → t ≡ rest → t ≡ refused_if b r rest
passed b r rest t e f = rw e f

-- what is fine was not refused, by this test or by the rest
pub not_refused : (b : Bool) (r : Refusal) (rest : Checked) → refused_if b r rest ≡ Ok tt → (b ≡ false) × (rest ≡ Ok tt)
not_refused true r rest e = absurd (let z : ◌≡◌ {A = ℕ} 0 1 = cc in omega arith)
not_refused false r rest e = (refl, e)
