-- What the first two candidates are: the least distance, and the least of the others. Assumes nothing.
use mathlib.Core.Path.{◌≡◌, refl, sym, ap, subst}
use mathlib.Core.Bool.{Bool, true, false}
use mathlib.Core.List.Memᴰ
use mathlib.Core.List.{List, [], ◌∷◌, Memᴰ}
use mathlib.Core.Logic.{◌⊎◌, inl, inr, ⊎_elim}
use Prim.Native.Nat.{ℕ, ◌<◌}
use lib.Ieee.{Float, lt, is_nan}
use Rattle.float_order.proofs.Order.{lt_irrefl}
use Rattle.candidates.specs.declared.Candidate.{Candidate}
use Rattle.candidates.specs.declared.Candidates.{Candidates}
use Rattle.candidates.specs.declared.Candidates.TheVariants.{Empty, One, Several}
use Rattle.candidates.specs.Candidates.{ordered, first_two}
use Rattle.candidates.specs.Listing.{IsOne, Exactly, Sorted}
use Rattle.candidates.proofs.Listing.{nth, exactly, sorted, before_not_farther}

-- what is found: no candidate; the only one; or one that none is below, with the distance of another that none of the others is below
pub data Found (distance : ℕ → Float) (candidate : ℕ → Bool) (n : ℕ) : Candidates → Type 0 where
  none : ((i : ℕ) → i < n → candidate i ≡ false) → Found distance candidate n Empty
  one : (a : ℕ) → a < n → candidate a ≡ true → ((i : ℕ) → i < n → candidate i ≡ true → i ≡ a) → Found distance candidate n (One (nth distance a))
  two : (a b : ℕ) → a < n → b < n → candidate a ≡ true → candidate b ≡ true → (b ≡ a → ⊥)
      → ((i : ℕ) → i < n → candidate i ≡ true → lt (distance i) (distance a) ≡ false)
      → ((i : ℕ) → i < n → candidate i ≡ true → (i ≡ a → ⊥) → lt (distance i) (distance b) ≡ false)
      → Found distance candidate n (Several (nth distance a) (distance b))

module _ (distance : ℕ → Float) (candidate : ℕ → Bool) (n : ℕ) where
  own : (c : Candidate) → IsOne distance candidate n c → c ≡ nth distance c.number
  own c o = ap (λ (d : Float). record { number = c.number; distance = d }) o.at_distance

  same : (i j : ℕ) → i ≡ j → lt (distance i) (distance j) ≡ false
  same i j e = rw e (lt_irrefl (distance j))

  number_is : (i : ℕ) (c : Candidate) → nth distance i ≡ c → i ≡ c.number
  number_is i c e = ap (λ (x : Candidate). x.number) e

  found_in : (l : List Candidate) → Exactly distance candidate n l → Sorted l → Found distance candidate n (first_two l)
  unfolding first_two
  found_in [] h s = none (λ i m. go i m (candidate i) refl)
    where
      go : (i : ℕ) → i < n → (t : Bool) → candidate i ≡ t → candidate i ≡ false
      go i m true e = absurd (Memᴰ.not-nil (h.all i m e))
      go i m false e = e
  found_in (a ∷ []) h s =
      let o = h.only a (Memᴰ.head refl) in
      subst (λ (x : Candidate). Found distance candidate n (One x)) (sym (own a o))
      (one a.number o.there o.is_candidate_holds (λ i m e. number_is i a (Memᴰ.eq_of_singleton (h.all i m e))))
  found_in (a ∷ (b ∷ l)) h s =
      let o = h.only a (Memᴰ.head refl) in
      let q = h.only b (Memᴰ.tail (Memᴰ.head refl)) in
      subst (λ (x : Candidate). Found distance candidate n (Several x b.distance)) (sym (own a o))
      (subst (λ (d : Float). Found distance candidate n (Several (nth distance a.number) d)) (sym q.at_distance)
      (two a.number b.number o.there q.there o.is_candidate_holds q.is_candidate_holds (λ e. h.once.0 b (Memᴰ.head refl) (sym e))
      (λ i m e. first o.at_distance i (Memᴰ.cases_cons (h.all i m e)))
      (λ i m e ne. ⊎_elim (λ z. absurd (ne (number_is i a z))) (λ z. second q.at_distance i (Memᴰ.cases_cons z)) (Memᴰ.cases_cons (h.all i m e)))))
    where
      first : a.distance ≡ distance a.number → (i : ℕ) → (nth distance i ≡ a) ⊎ Memᴰ (nth distance i) (b ∷ l) → lt (distance i) (distance a.number) ≡ false
      first e i (inl z) = same i a.number (number_is i a z)
      first e i (inr z) = rw e at (before_not_farther a (nth distance i) (s.0 (nth distance i) z))

      second : b.distance ≡ distance b.number → (i : ℕ) → (nth distance i ≡ b) ⊎ Memᴰ (nth distance i) l → lt (distance i) (distance b.number) ≡ false
      second e i (inl z) = same i b.number (number_is i b z)
      second e i (inr z) = rw e at (before_not_farther b (nth distance i) (s.1.0 (nth distance i) z))

pub found : (distance : ℕ → Float) (candidate : ℕ → Bool) → ((k : ℕ) → candidate k ≡ true → is_nan (distance k) ≡ false) → (n : ℕ) → Found distance candidate n (first_two (ordered distance candidate n))
found distance candidate sane n = found_in distance candidate n (ordered distance candidate n) (exactly distance candidate n) (sorted distance candidate sane n)
