-- An array that `from_fn` or `map` made, by a closure that its calls leave as it is, is the table of what the closure gives. Assumes nothing.
use mathlib.Core.Path.{◌≡◌, sym, ap, subst, ◌∙◌}
use mathlib.Core.List.{List}
use Prim.Native.Nat.{ℕ, zero, suc, ◌+◌, ◌<◌, ◌≤◌}
use native.Mathlib.Decide.{ℕ_discrete}
use native.Mathlib.Omega.{arith}
use denote.Param.Members.{Mut, Called}
use lib.ListN.{get_or}
use Rattle.std.specs.Array.{IsFromFnResultFrom, IsFromFnResult, MapsFrom, IsMapOf}
use Rattle.elimination.specs.Tables.{table}
use Rattle.elimination.proofs.Tables.{table_is}

module _ {F B : Type 0} (g : Mut F (ℕ × Unit {0}) B) (f : F) (h : ℕ → B) (ys : List B) (d : B) where
  counted_from : (i n : ℕ) → ((j : ℕ) (y : B) (q : F) → j < i + n → Called g f (j, tt) y q → (q ≡ f) × (y ≡ h j)) → IsFromFnResultFrom g f ys i n → (k : ℕ) → i ≤ k → k < i + n
      → get_or ys k d ≡ h k
  counted_from i zero gives e k low high = absurd (omega arith)
  counted_from i (suc n) gives e k low high = go (ℕ_discrete k i) (λ l. counted_from (i + 1) n (λ j y q b. gives j y q (omega arith)) rest k l (omega arith))
    where
      here : (e.0 ≡ f) × (e.1 ≡ h i)
      here = gives i e.1 e.0 (omega arith) e.3

      rest : IsFromFnResultFrom g f ys (i + 1) n
      rest = subst (λ (q : F). IsFromFnResultFrom g q ys (i + 1) n) here.0 e.4

      go : Dec (k ≡ i) → (i + 1 ≤ k → get_or ys k d ≡ h k) → get_or ys k d ≡ h k
      go (yes q) more = rw q (e.2.1 d ∙ here.1)
      go (no q) more = more (omega arith)

  pub counted : (n : ℕ) → IsFromFnResult g f ys n → ((j : ℕ) (y : B) (q : F) → j < n → Called g f (j, tt) y q → (q ≡ f) × (y ≡ h j)) → ys ≡ table n h
  counted n e gives = table_is n h ys d e.long (λ k l. counted_from 0 n (λ j y q b. gives j y q (omega arith)) e.each k (omega arith) (omega arith))

module _ {F A B : Type 0} (g : Mut F (A × Unit {0}) B) (f : F) (h : A → B) (xs : List A) (ys : List B) (c : A) (d : B) (gives : (x : A) (y : B) (q : F) → Called g f (x, tt) y q → (q ≡ f) × (y ≡ h x)) where
  mapped_from : (i n : ℕ) → MapsFrom g f xs ys i n → (k : ℕ) → i ≤ k → k < i + n → get_or ys k d ≡ h (get_or xs k c)
  mapped_from i zero e k low high = absurd (omega arith)
  mapped_from i (suc n) e k low high = go (ℕ_discrete k i) (λ l. mapped_from (i + 1) n rest k l (omega arith))
    where
      here : (e.0 ≡ f) × (e.2 ≡ h e.1)
      here = gives e.1 e.2 e.0 e.5

      rest : MapsFrom g f xs ys (i + 1) n
      rest = subst (λ (q : F). MapsFrom g q xs ys (i + 1) n) here.0 e.6

      go : Dec (k ≡ i) → (i + 1 ≤ k → get_or ys k d ≡ h (get_or xs k c)) → get_or ys k d ≡ h (get_or xs k c)
      go (yes q) more = rw q (e.4.1 d ∙ here.1 ∙ ap h (sym (e.3.1 c)))
      go (no q) more = more (omega arith)

  pub mapped : (n : ℕ) → IsMapOf g f xs ys n → ys ≡ table n (λ k. h (get_or xs k c))
  mapped n e = table_is n (λ k. h (get_or xs k c)) ys d e.long (λ k l. mapped_from 0 n e.each k (omega arith) (omega arith))
