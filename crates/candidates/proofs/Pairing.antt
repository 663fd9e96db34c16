-- The same corners in another order: both choice rules choose the paired corner, or nothing, or call it ambiguous, in both. Assumes nothing.
-- Ties need no condition: the two first distances are the same in both orders, and if they are equal, the quotient is at most 1 and both are ambiguous.
use mathlib.Core.Path.{◌≡◌, refl, sym, ap, ap₂, ◌∙◌, subst}
use mathlib.Core.Bool.{Bool, true, false, ◌&&◌, cond, true≢false}
use Prim.Native.Nat.{ℕ, ◌<◌}
use native.Mathlib.Decide.{ℕ_discrete}
use lib.Dec.{T}
use lib.Ieee.{Float, binary32, div, lt, le}
use lib.Ieee.Scale.{finite}
use Rattle.std.specs.Prelude.{Ok, Err}
use Rattle.float_order.proofs.Unsigned.{plain_unique}
use Rattle.binary32.specs.Sqrt.{sqrt_or_nan}
use Rattle.sheet.specs.Pairing.{Shuffle}
use Rattle.sheet.specs.declared.Position.{Position}
use Rattle.binary32.specs.Numbers.{one}
use Rattle.sheet.specs.Corners.{squared_distance, finite_position}
use Rattle.candidates.specs.declared.Candidate.{Candidate}
use Rattle.candidates.specs.declared.Candidates.{Candidates}
use Rattle.candidates.specs.declared.Candidates.TheVariants.{Empty, One, Several}
use Rattle.candidates.specs.declared.Unchosen.TheVariants.{Ambiguous}
use Rattle.candidates.specs.Candidates.{squared_radius, is_candidate, distance_of, candidates_at, first_two}
use Rattle.candidates.specs.Choice.{epsilon, by_quotient, choose_unambiguous, raised, choose_with_floor, renumbered}
use Rattle.candidates.proofs.Listing.{nth}
use Rattle.candidates.proofs.Collected.{Sound, sound_no_nan, distance_sound, candidates_none, candidates_are}
use Rattle.candidates.proofs.Nearest as nearest
use Rattle.candidates.proofs.Nearest.{Found, found}
use Rattle.candidates.proofs.Choice.{tie_unambiguous, tie_with_floor}

-- what is found in both orders: as many, at the same distances; the first is the paired corner unless the second is as near
pub data Alike (to : ℕ → ℕ) : Candidates → Candidates → Type 0 where
  alike_none : Alike to Empty Empty
  alike_one : (k : ℕ) (d : Float) → Alike to (One (record { number = k; distance = d })) (One (record { number = to k; distance = d }))
  alike_two : (k k' : ℕ) (d e : Float) → Sound d → Sound e → (lt d e ≡ true → k' ≡ to k)
      → Alike to (Several (record { number = k; distance = d }) e) (Several (record { number = k'; distance = d }) e)

-- ---- over distances and candidates

module _ {n : ℕ} (s : Shuffle n) (dist dist' : ℕ → Float) (cand cand' : ℕ → Bool)
    (same-dist : (i : ℕ) → i < n → dist' (s.to i) ≡ dist i) (same-cand : (i : ℕ) → i < n → cand' (s.to i) ≡ cand i)
    (sound : (i : ℕ) → cand i ≡ true → Sound (dist i)) where
  dist_back : (j : ℕ) → j < n → dist' j ≡ dist (s.from j)
  dist_back j h = rw (s.to_from j h) at (same-dist (s.from j) (s.from_in j h))

  cand_back : (j : ℕ) → j < n → cand' j ≡ true → cand (s.from j) ≡ true
  cand_back j h p = sym (rw (s.to_from j h) at (same-cand (s.from j) (s.from_in j h))) ∙ p

  cand_on : (i : ℕ) → i < n → cand i ≡ true → cand' (s.to i) ≡ true
  cand_on i h p = same-cand i h ∙ p

  back : (i j : ℕ) → j < n → s.from j ≡ i → j ≡ s.to i
  back i j h e = sym (s.to_from j h) ∙ ap s.to e

  on : (i j : ℕ) → i < n → s.to i ≡ j → s.from j ≡ i
  on i j h e = sym (ap s.from e) ∙ s.from_to_holds i h

  -- of two distances neither of which is below the other
  level : (i j : ℕ) → cand i ≡ true → cand j ≡ true → lt (dist i) (dist j) ≡ false → lt (dist j) (dist i) ≡ false → dist i ≡ dist j
  level i j p q x y = plain_unique binary32 (dist i) (dist j) (sound i p).held (sound j q).held (sound i p).unsigned (sound j q).unsigned x y

  alike : (b b' : Candidates) → Found dist cand n b → Found dist' cand' n b' → Alike s.to b b'
  alike b b' (nearest.none h) (nearest.none h') = alike_none
  alike b b' (nearest.none h) (nearest.one a la pa u) = absurd (true≢false (sym (cand_back a la pa) ∙ h (s.from a) (s.from_in a la)))
  alike b b' (nearest.none h) (nearest.two a q la lq pa pq ne u v) = absurd (true≢false (sym (cand_back a la pa) ∙ h (s.from a) (s.from_in a la)))
  alike b b' (nearest.one a la pa u) (nearest.none h) = absurd (true≢false (sym (cand_on a la pa) ∙ h (s.to a) (s.to_in a la)))
  alike b b' (nearest.one a la pa u) (nearest.one a' la' pa' u') =
      let e : a' ≡ s.to a = back a a' la' (u (s.from a') (s.from_in a' la') (cand_back a' la' pa')) in
      subst (λ (x : Candidate). Alike s.to (One (nth dist a)) (One x))
      (ap₂ (λ (k : ℕ) (d : Float). record { number = k; distance = d }) (sym e) (sym (ap dist' e ∙ same-dist a la))) (alike_one a (dist a))
  alike b b' (nearest.one a la pa u) (nearest.two a' q la' lq pa' pq ne h k) =
      absurd (ne (back a q lq (u (s.from q) (s.from_in q lq) (cand_back q lq pq)) ∙ sym (back a a' la' (u (s.from a') (s.from_in a' la') (cand_back a' la' pa')))))
  alike b b' (nearest.two a q la lq pa pq ne h k) (nearest.none h') = absurd (true≢false (sym (cand_on a la pa) ∙ h' (s.to a) (s.to_in a la)))
  alike b b' (nearest.two a q la lq pa pq ne h k) (nearest.one a' la' pa' u) =
      absurd (ne (sym (s.from_to_holds q lq) ∙ ap s.from (u (s.to q) (s.to_in q lq) (cand_on q lq pq) ∙ sym (u (s.to a) (s.to_in a la) (cand_on a la pa))) ∙ s.from_to_holds a la))
  alike b b' (nearest.two a q la lq pa pq ne h k) (nearest.two a' q' la' lq' pa' pq' ne' h' k') =
      let t = ℕ_discrete (s.from a') a in
      subst (λ (x : Candidates). Alike s.to (Several (nth dist a) (dist q)) x)
      (ap₂ (λ (d e : Float). Several (record { number = a'; distance = d }) e) (sym (dist_back a' la' ∙ near)) (sym (dist_back q' lq' ∙ next t)))
      (alike_two a a' (dist a) (dist q) (sound a pa) (sound q pq) (λ apart. back a a' la' (first apart t)))
    where
      i : ℕ
      i = s.from a'

      j : ℕ
      j = s.from q'

      i_cand : cand i ≡ true
      i_cand = cand_back a' la' pa'

      j_cand : cand j ≡ true
      j_cand = cand_back q' lq' pq'

      -- the least distance is the least in both
      near : dist i ≡ dist a
      near =
          level i a i_cand pa (h i (s.from_in a' la') i_cand)
          (rw (same-dist a la, dist_back a' la') at (h' (s.to a) (s.to_in a la) (cand_on a la pa)))

      -- where the first two of the second order are another pair, the first order's two are as near
      tied : (i ≡ a → ⊥) → dist q ≡ dist a
      tied f = level q a pq pa (h q lq pq) (rw near at (k i (s.from_in a' la') i_cand f))

      first : lt (dist a) (dist q) ≡ true → Dec (i ≡ a) → i ≡ a
      first apart (yes e) = e
      first apart (no f) = absurd (true≢false (sym apart ∙ rw near at (k i (s.from_in a' la') i_cand f)))

      next : Dec (i ≡ a) → dist j ≡ dist q
      next (yes e) =
          level j q j_cand pq
          (k j (s.from_in q' lq') j_cand (λ f. ne' (back a q' lq' f ∙ sym (back a a' la' e))))
          (rw (same-dist q lq, dist_back q' lq') at (k' (s.to q) (s.to_in q lq) (cand_on q lq pq) (λ f. ne (sym (on q a' lq f) ∙ e))))
      next (no f) =
          level j a j_cand pa (h j (s.from_in q' lq') j_cand)
          (rw (same-dist a la, dist_back q' lq') at (k' (s.to a) (s.to_in a la) (cand_on a la pa) (λ e. f (on a a' la e))))
          ∙ sym (tied f)

-- ---- both choices, of what is found in both orders

same_pick : (to : ℕ → ℕ) (b : Bool) (k k' : ℕ) → k' ≡ to k → cond b (Err Ambiguous) (Ok k') ≡ renumbered to (cond b (Err Ambiguous) (Ok k))
same_pick to true k k' e = refl
same_pick to false k k' e = ap Ok e

module _ (to : ℕ → ℕ) (factor : Float) (above : lt one factor ≡ true) where
  unambiguous_alike : (b b' : Candidates) → Alike to b b' → choose_unambiguous b' factor ≡ renumbered to (choose_unambiguous b factor)
  unfolding choose_unambiguous
  unambiguous_alike b b' alike_none = refl
  unambiguous_alike b b' (alike_one k d) = refl
  unambiguous_alike b b' (alike_two k k' d e f g h) = go (lt d e) refl
    where
      apart : k' ≡ to k → (t : Bool) → cond t (Err Ambiguous) (by_quotient k' d e factor) ≡ renumbered to (cond t (Err Ambiguous) (by_quotient k d e factor))
      apart z true = refl
      apart z false = same_pick to (lt (div binary32 e d) factor) k k' z

      go : (t : Bool) → lt d e ≡ t → cond (le d epsilon) (Err Ambiguous) (by_quotient k' d e factor) ≡ renumbered to (cond (le d epsilon) (Err Ambiguous) (by_quotient k d e factor))
      go true z = apart (h z) (le d epsilon)
      go false z = tie_unambiguous d e factor f g z above k' ∙ sym (ap (renumbered to) (tie_unambiguous d e factor f g z above k))

  floor_alike : (b b' : Candidates) → Alike to b b' → choose_with_floor b' factor ≡ renumbered to (choose_with_floor b factor)
  unfolding choose_with_floor
  floor_alike b b' alike_none = refl
  floor_alike b b' (alike_one k d) = refl
  floor_alike b b' (alike_two k k' d e f g h) = go (lt d e) refl
    where
      go : (t : Bool) → lt d e ≡ t → by_quotient k' (raised d) e factor ≡ renumbered to (by_quotient k (raised d) e factor)
      go true z = same_pick to (lt (div binary32 e (raised d)) factor) k k' (h z)
      go false z = tie_with_floor d e factor f g z above k' ∙ sym (ap (renumbered to) (tie_with_floor d e factor f g z above k))

-- ---- of the corners

-- Corner i of the first order is corner `to i` of the second: it lies at the same place, and is labelled in both or in neither.
-- The squared radius is finite, and the factor is above 1.
module _ {n : ℕ} (s : Shuffle n) (position position' : ℕ → Position) (may may' : ℕ → Bool)
    (same_place : (i : ℕ) → i < n → position' (s.to i) ≡ position i)
    (same_label : (i : ℕ) → i < n → may' (s.to i) ≡ may i)
    (p : Position) (r : Float) (small : T (finite (squared_radius r))) where
  pub found_alike : Alike s.to (first_two (candidates_at position may n p r)) (first_two (candidates_at position' may' n p r))
  found_alike = go (finite_position p) refl
    where
      go : (t : Bool) → finite_position p ≡ t → Alike s.to (first_two (candidates_at position may n p r)) (first_two (candidates_at position' may' n p r))
      go true e =
          rw (candidates_are position may n p r e, candidates_are position' may' n p r e)
          (alike s (distance_of position p) (distance_of position' p) (is_candidate position may p r) (is_candidate position' may' p r)
          (λ i h. ap (λ (q : Position). sqrt_or_nan (squared_distance q p)) (same_place i h))
          (λ i h. ap₂ (λ (b : Bool) (q : Position). b && le (squared_distance q p) (squared_radius r)) (same_label i h) (same_place i h))
          (distance_sound position may p r small)
          _ _
          (found (distance_of position p) (is_candidate position may p r) (λ k h. sound_no_nan _ (distance_sound position may p r small k h)) n)
          (found (distance_of position' p) (is_candidate position' may' p r) (λ k h. sound_no_nan _ (distance_sound position' may' p r small k h)) n))
      go false e = rw (candidates_none position may n p r e, candidates_none position' may' n p r e) (unfold first_two in alike_none)

  -- grow's choice is the same through the pairing
  pub paired_unambiguous : (factor : Float) → lt one factor ≡ true
      → choose_unambiguous (first_two (candidates_at position' may' n p r)) factor ≡ renumbered s.to (choose_unambiguous (first_two (candidates_at position may n p r)) factor)
  paired_unambiguous factor above = unambiguous_alike s.to factor above _ _ found_alike

  -- and so is fill's and local's
  pub paired_with_floor : (factor : Float) → lt one factor ≡ true
      → choose_with_floor (first_two (candidates_at position' may' n p r)) factor ≡ renumbered s.to (choose_with_floor (first_two (candidates_at position may n p r)) factor)
  paired_with_floor factor above = floor_alike s.to factor above _ _ found_alike
