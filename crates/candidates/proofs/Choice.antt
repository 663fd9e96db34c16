-- Laws of the two choice rules: what is chosen is a candidate, and with a factor above 1 a tie for the first place is ambiguous. Assumes nothing.
use mathlib.Core.Path.{◌≡◌, refl, sym, subst, ◌∙◌}
use mathlib.Core.Logic.{inl, inr}
use mathlib.Core.Bool.{Bool, true, false, ◌||◌, cond, true≢false, and-eq-true_iff}
use mathlib.Core.List.Memᴰ
use mathlib.Core.List.{List, [], ◌∷◌, Memᴰ}
use Prim.Native.Nat.{ℕ, ◌<◌}
use native.Mathlib.Omega.{arith}
use lib.Dec.{T}
use lib.Ieee.{Float, binary32, fits, div, eq, lt, le, is_nan, of_bits}
use lib.Ieee.Bits.{of_bits-fits}
use lib.Ieee.Scale.{finite}
use Rattle.std.specs.Prelude.{Ok, Err}
use Rattle.std.specs.Float.{float_max, IsFloatMax}
use Rattle.std.proofs.lemmas.Float.{le_of_eq, eq_flip}
use Rattle.float_order.specs.Unsigned.{plain, nonzero}
use Rattle.float_order.proofs.Order.{not_le→lt, not_lt→le, le→not_lt, le_lt_trans, lt→le}
use Rattle.float_order.proofs.Unsigned.{plain_unique, plain_above, plain_at_least}
use Rattle.float_order.proofs.Quotient.{div_below}
use Rattle.sheet.specs.declared.Position.{Position}
use Rattle.binary32.specs.Numbers.{one}
use Rattle.sheet.specs.Corners.{squared_distance, finite_position}
use Rattle.candidates.specs.declared.Candidate.{Candidate}
use Rattle.candidates.specs.declared.Candidates.{Candidates}
use Rattle.candidates.specs.declared.Candidates.TheVariants.{Empty, One, Several}
use Rattle.candidates.specs.declared.Unchosen.TheVariants.{Nothing, Ambiguous}
use Rattle.candidates.specs.Candidates.{squared_radius, candidates_at, first_two}
use Rattle.candidates.specs.Choice.{CandidateChoice, epsilon, by_quotient, choose_unambiguous, raised, choose_with_floor, ChosenBy}
use Rattle.candidates.proofs.Collected.{Sound, sound_no_nan, within, candidates_none, candidates_exactly}

-- ---- both rules, by what they say of two or more

module _ {P : Candidate → Float → CandidateChoice → Type 0} (factor : Float) where
  pub unambiguous_by : ((a : Candidate) (second : Float) (r : CandidateChoice) → P a second r → r ≡ choose_unambiguous (Several a second) factor)
      → (candidates : Candidates) {r : CandidateChoice} → ChosenBy P candidates r → r ≡ choose_unambiguous candidates factor
  unfolding choose_unambiguous
  unambiguous_by h Empty e = e
  unambiguous_by h (One a) e = e
  unambiguous_by h (Several a second) e = h a second _ e

  pub floor_by : ((a : Candidate) (second : Float) (r : CandidateChoice) → P a second r → r ≡ choose_with_floor (Several a second) factor)
      → (candidates : Candidates) {r : CandidateChoice} → ChosenBy P candidates r → r ≡ choose_with_floor candidates factor
  unfolding choose_with_floor
  floor_by h Empty e = e
  floor_by h (One a) e = e
  floor_by h (Several a second) e = h a second _ e

-- ---- what is chosen is a candidate

-- corner k is among the n corners, may be a candidate and lies within the radius
pub record Chosen (position : ℕ → Position) (may : ℕ → Bool) (n : ℕ) (p : Position) (r : Float) (k : ℕ) : Type 0 where
  pub there : k < n
  pub free : may k ≡ true
  pub near : le (squared_distance (position k) p) (squared_radius r) ≡ true

picks : (b : Bool) (j k : ℕ) → ◌≡◌ {A = CandidateChoice} (cond b (Err Ambiguous) (Ok j)) (Ok k) → j ≡ k
picks true j k h = let z : ◌≡◌ {A = ℕ} 0 1 = cc in absurd (no z)
  where
    no : ◌≡◌ {A = ℕ} 0 1 → ⊥
    no z = omega arith
picks false j k h = cc

nothing : (k : ℕ) → ◌≡◌ {A = CandidateChoice} (Err Nothing) (Ok k) → ⊥
nothing k h = let z : ◌≡◌ {A = ℕ} 0 1 = cc in omega arith

unless : (a b : Bool) (j k : ℕ) → ◌≡◌ {A = CandidateChoice} (cond a (Err Ambiguous) (cond b (Err Ambiguous) (Ok j))) (Ok k) → j ≡ k
unless true b j k h = picks true j k h
unless false b j k h = picks b j k h

-- it stands first in the list
unambiguous_first : (l : List Candidate) (factor : Float) (k : ℕ) → choose_unambiguous (first_two l) factor ≡ Ok k → (c : Candidate) × Memᴰ c l × (c.number ≡ k)
unfolding choose_unambiguous first_two
unambiguous_first [] factor k h = absurd (nothing k h)
unambiguous_first (a ∷ []) factor k h = (a, Memᴰ.head refl, picks false a.number k h)
unambiguous_first (a ∷ (b ∷ l)) factor k h = (a, Memᴰ.head refl, unless (le a.distance epsilon) (lt (div binary32 b.distance a.distance) factor) a.number k h)

floor_first : (l : List Candidate) (factor : Float) (k : ℕ) → choose_with_floor (first_two l) factor ≡ Ok k → (c : Candidate) × Memᴰ c l × (c.number ≡ k)
unfolding choose_with_floor first_two
floor_first [] factor k h = absurd (nothing k h)
floor_first (a ∷ []) factor k h = (a, Memᴰ.head refl, picks false a.number k h)
floor_first (a ∷ (b ∷ l)) factor k h = (a, Memᴰ.head refl, picks (lt (div binary32 b.distance (raised a.distance)) factor) a.number k h)

module _ (position : ℕ → Position) (may : ℕ → Bool) (n : ℕ) (p : Position) (r : Float) where
  member : (k : ℕ) → (c : Candidate) × Memᴰ c (candidates_at position may n p r) × (c.number ≡ k) → Chosen position may n p r k
  member k (c, m, e) = go (finite_position p) refl
    where
      go : (t : Bool) → finite_position p ≡ t → Chosen position may n p r k
      go true f =
          let o = (candidates_exactly position may n p r f).only c m in
          record {
            there = subst (λ (j : ℕ). j < n) e o.there;
            free = ((and-eq-true_iff (may k) (le (squared_distance (position k) p) (squared_radius r))).0 (rw e at o.is_candidate_holds)).0;
            near = within position may p r k (rw e at o.is_candidate_holds);
          }
      go false f = absurd (Memᴰ.not-nil (rw (candidates_none position may n p r f) at m))

  pub chosen_unambiguous : (factor : Float) (k : ℕ) → choose_unambiguous (first_two (candidates_at position may n p r)) factor ≡ Ok k → Chosen position may n p r k
  chosen_unambiguous factor k h = member k (unambiguous_first (candidates_at position may n p r) factor k h)

  pub chosen_with_floor : (factor : Float) (k : ℕ) → choose_with_floor (first_two (candidates_at position may n p r)) factor ≡ Ok k → Chosen position may n p r k
  chosen_with_floor factor k h = member k (floor_first (candidates_at position may n p r) factor k h)

-- ---- a tie for the first place

epsilon_no_nan : is_nan epsilon ≡ false
unfolding of_bits is_nan
epsilon_no_nan = refl

epsilon_fits : T (fits binary32 epsilon)
epsilon_fits = of_bits-fits binary32 0x3400_0000

epsilon_plain : T (plain epsilon)
unfolding of_bits
epsilon_plain = tt

epsilon_finite : T (finite epsilon)
unfolding of_bits
epsilon_finite = tt

epsilon_nonzero : T (nonzero epsilon)
unfolding of_bits
epsilon_nonzero = tt

-- the larger of a distance and 2^-23, whichever of two equal ones that is, is the distance raised
pub raised_is : (d r : Float) → T (fits binary32 d) → IsFloatMax d epsilon r → (eq d epsilon ≡ false → r ≡ float_max d epsilon) → r ≡ raised d
raised_is d r f value unequal = go (eq d epsilon) refl
  where
    larger : (b : Bool) → is_nan epsilon ≡ b → b ≡ false → cond (le epsilon d || b) d epsilon ≡ raised d
    larger true e n = absurd (true≢false n)
    larger false e n = by (le epsilon d)
      where
        by : (t : Bool) → cond (t || false) d epsilon ≡ cond t d epsilon
        by true = refl
        by false = refl

    go : (t : Bool) → eq d epsilon ≡ t → r ≡ raised d
    go false e = unequal e ∙ larger (is_nan epsilon) refl epsilon_no_nan
    go true e = either (plain_unique binary32 d epsilon f epsilon_fits (plain_at_least epsilon d epsilon_plain epsilon_nonzero above).0 epsilon_plain below (le→not_lt d epsilon at_most))
      where
        told : (b : Bool) → T b → b ≡ true
        told true t = refl
        told false t = absurd t

        both : T (eq d epsilon)
        both = subst T (sym e) tt

        at_most : le d epsilon ≡ true
        at_most = told (le d epsilon) (le_of_eq d epsilon both)

        above : le epsilon d ≡ true
        above = told (le epsilon d) (le_of_eq epsilon d (eq_flip d epsilon both))

        below : lt d epsilon ≡ false
        below = le→not_lt epsilon d above

        as_one : (b : Bool) → cond b epsilon epsilon ≡ epsilon
        as_one true = refl
        as_one false = refl

        one_or_other : IsFloatMax epsilon epsilon r → r ≡ epsilon
        one_or_other (inl h) = h ∙ as_one (le epsilon epsilon || is_nan epsilon)
        one_or_other (inr h) = h ∙ as_one (le epsilon epsilon || is_nan epsilon)

        either : d ≡ epsilon → r ≡ raised d
        either h = rw h (one_or_other (rw h at value) ∙ sym (as_one (le epsilon epsilon)))

-- a second distance that is not above the first is ambiguous, for a factor above 1
module _ (first second factor : Float) (f : Sound first) (s : Sound second) (h : lt first second ≡ false) (above : lt one factor ≡ true) where
  second_le : le second first ≡ true
  second_le = not_lt→le second first (sound_no_nan second s) (sound_no_nan first f) h

  pub tie_unambiguous : (k : ℕ) → cond (le first epsilon) (Err Ambiguous) (by_quotient k first second factor) ≡ Err Ambiguous
  tie_unambiguous k = go (le first epsilon) refl
    where
      go : (t : Bool) → le first epsilon ≡ t → cond t (Err Ambiguous) (by_quotient k first second factor) ≡ Err Ambiguous
      go true e = refl
      go false e =
          let l = not_le→lt first epsilon (sound_no_nan first f) epsilon_no_nan e in
          rw (div_below binary32 second first factor s.unsigned f.unsigned f.bounded (plain_above epsilon first epsilon_plain l).1 second_le above)

  pub tie_with_floor : (k : ℕ) → by_quotient k (raised first) second factor ≡ Err Ambiguous
  tie_with_floor k = go (le epsilon first) refl
    where
      go : (t : Bool) → le epsilon first ≡ t → by_quotient k (cond t first epsilon) second factor ≡ Err Ambiguous
      go true e = rw (div_below binary32 second first factor s.unsigned f.unsigned f.bounded (plain_at_least epsilon first epsilon_plain epsilon_nonzero e).1 second_le above)
      go false e =
          let l = not_le→lt epsilon first epsilon_no_nan (sound_no_nan first f) e in
          rw (div_below binary32 second epsilon factor s.unsigned epsilon_plain epsilon_finite epsilon_nonzero
          (lt→le second epsilon (le_lt_trans second first epsilon second_le l)) above)
