-- The scan: what it keeps is the first two of the candidates in order. Assumes nothing.
use mathlib.Core.Path.{◌≡◌, refl, sym, ap, subst, ◌∙◌}
use mathlib.Core.Bool.{Bool, true, false, cond, ◌&&◌, and-eq-true_iff}
use mathlib.Core.List.{List, [], ◌∷◌, Memᴰ, map}
use Prim.Native.Nat.{ℕ, zero, suc, ◌+◌, ◌≤◌, ◌<◌}
use native.Mathlib.Numerals.{add-one}
use native.Mathlib.Decide.{ℕ_discrete}
use native.Mathlib.Omega.{arith}
use borrow.Author.Tests.{leb-true, leb-false}
use lib.Dec.{leb}
use Rattle.std.specs.Option.{MatchOption}
use Rattle.std.specs.Prelude.{Option, Some, None}
use Rattle.std.specs.List.{sum, sum_by, range_with_len}
use Rattle.std.proofs.lemmas.List.Sums.{sum-map}
use Rattle.std.proofs.lemmas.List.FromFn.{sum_by-map-range_with_len_more}
use mir.Val.{bool_byte}
use lib.Ieee.{Float, lt, le}
use Rattle.sheet.specs.declared.held.CornerArrays.{CornerArrays}
use Rattle.sheet.specs.declared.Position.{Position}
use Rattle.sheet.specs.Corners.{squared_distance, finite_position}
use Rattle.candidates.specs.declared.Candidate.{Candidate}
use Rattle.candidates.specs.declared.Candidates.{Candidates}
use Rattle.candidates.specs.declared.Candidates.TheVariants.{Empty, Several}
use Rattle.candidates.specs.declared.Found.{Found}
use Rattle.candidates.specs.declared.Measured.{Measured}
use Rattle.candidates.specs.Candidates.{positions_in, squared_radius, is_candidate, distance_of, insert, ordered, candidates_at, first_two}
use Rattle.candidates.specs.Steps.{kept, narrowed, limit_of, candidates_in, is_near, is_within, one_if, count_from, first_two_below, Next, IsNext, measured}
use Rattle.candidates.proofs.Listing.{before_later, nth, exactly}
use Rattle.candidates.proofs.Limit.{Limited, squared, limited_within, passed_over, narrowed_found, narrowed_limited}

-- ---- one more candidate

pub keep_insert : (c : Candidate) (l : List Candidate) → ((x : Candidate) → Memᴰ x l → x.number < c.number) → kept (first_two l) c ≡ first_two (insert c l)
unfolding first_two insert
keep_insert c [] h = refl
keep_insert c (a ∷ []) h = rw (before_later a c (h a (Memᴰ.head refl))) (go (lt c.distance a.distance))
  where
    go : (t : Bool) → cond t (Several c a.distance) (Several a c.distance) ≡ first_two (cond t (c ∷ a ∷ []) (a ∷ c ∷ []))
    go true = refl
    go false = refl
keep_insert c (a ∷ (b ∷ l)) h =
    rw (before_later a c (h a (Memᴰ.head refl)), before_later b c (h b (Memᴰ.tail (Memᴰ.head refl))))
    (go (lt c.distance a.distance) (lt c.distance b.distance))
  where
    go : (t u : Bool) → cond t (Several c a.distance) (cond u (Several a c.distance) (Several a b.distance)) ≡ first_two (cond t (c ∷ a ∷ b ∷ l) (a ∷ cond u (c ∷ b ∷ l) (b ∷ insert c l)))
    go true u = refl
    go false true = refl
    go false false = refl

-- ---- one more corner

pub grows : (distance : ℕ → Float) (candidate : ℕ → Bool) (k : ℕ) → candidate k ≡ true
    → kept (first_two (ordered distance candidate k)) (nth distance k) ≡ first_two (ordered distance candidate (suc k))
unfolding ordered
grows distance candidate k e =
    rw e (keep_insert (nth distance k) (ordered distance candidate k) (λ x m. ((exactly distance candidate k).only x m).there))

none : (distance : ℕ → Float) (candidate : ℕ → Bool) (k : ℕ) → candidate k ≡ false → first_two (ordered distance candidate k) ≡ first_two (ordered distance candidate (suc k))
unfolding ordered
none distance candidate k e = rw e

-- a corner that is no candidate, or that comes after the first two of those before it
pub stays : (distance : ℕ → Float) (candidate : ℕ → Bool) (found : Candidates) (k : ℕ) → (candidate k ≡ true → kept found (nth distance k) ≡ found)
    → found ≡ first_two (ordered distance candidate k) → found ≡ first_two (ordered distance candidate (suc k))
stays distance candidate found k after e = go (candidate k) refl
  where
    go : (t : Bool) → candidate k ≡ t → found ≡ first_two (ordered distance candidate (suc k))
    go true f = sym (after f) ∙ ap (λ (l : Candidates). kept l (nth distance k)) e ∙ grows distance candidate k f
    go false f = e ∙ none distance candidate k f

pub skips : (distance : ℕ → Float) (candidate : ℕ → Bool) (found : Candidates) (from r : ℕ) → from ≤ r
    → ((k : ℕ) → from ≤ k → k < r → candidate k ≡ true → kept found (nth distance k) ≡ found)
    → found ≡ first_two (ordered distance candidate from) → found ≡ first_two (ordered distance candidate r)
skips distance candidate found from zero h after e = e ∙ ap (λ (k : ℕ). first_two (ordered distance candidate k)) (omega arith)
skips distance candidate found from (suc r) h after e = go (λ l. skips distance candidate found from r l (λ k a b. after k a (omega arith)) e) (ℕ_discrete from (suc r))
  where
    go : (from ≤ r → found ≡ first_two (ordered distance candidate r)) → Dec (from ≡ suc r) → found ≡ first_two (ordered distance candidate (suc r))
    go w (yes d) = e ∙ ap (λ (k : ℕ). first_two (ordered distance candidate k)) d
    go w (no d) = stays distance candidate found r (after r (omega arith) (omega arith)) (w (omega arith))

-- ---- the test of one corner

-- with a smaller limit than the squared radius
module _ (position : ℕ → Position) (may : ℕ → Bool) (p : Position) (r limit : Float) (k : ℕ) where
  -- what passes it is a candidate
  hits : (le (squared_distance (position k) p) limit ≡ true → le (squared_distance (position k) p) (squared_radius r) ≡ true)
      → is_within position may p limit k ≡ true → is_candidate position may p r k ≡ true
  hits more h =
      let b = (and-eq-true_iff (may k) (le (squared_distance (position k) p) limit)).0 h in
      rw (b.0, more b.1)

  -- and a candidate that does not pass it is beyond the limit
  beyond : is_candidate position may p r k ≡ true → is_within position may p limit k ≡ false
      → (le (squared_distance (position k) p) (squared_radius r) ≡ true) × (le (squared_distance (position k) p) limit ≡ false)
  beyond h n =
      let b = (and-eq-true_iff (may k) (le (squared_distance (position k) p) (squared_radius r))).0 h in
      (b.1, rw b.0 at n)

-- ---- the search for the next corner within the limit

module _ (candidate : ℕ → Bool) (n from : ℕ) where
  -- the first that passes, if there is one
  pub next_found : (r : Option ℕ) → from ≤ n
      → MatchOption r ((k : ℕ) → from ≤ k → k < n → candidate k ≡ false) (λ i. (from ≤ i) × (i < n) × (candidate i ≡ true) × ((k : ℕ) → from ≤ k → k < i → candidate k ≡ false))
      → IsNext candidate n from r
  next_found None h e = record { on = h; within = omega arith; passed = e; hit = λ m. absurd (omega arith) }
  next_found (Some i) h e = (record { on = e.0; within = omega arith; passed = e.3; hit = λ m. e.2 }, e.1)

  -- from a corner up to which none is within, on to the next
  later : (k r : ℕ) → from ≤ k → ((i : ℕ) → from ≤ i → i < k → candidate i ≡ false) → Next candidate n k r → Next candidate n from r
  later k r h p s = record { on = omega (arith, s.on); within = s.within; passed = λ i a b. go i a b (leb k i) refl; hit = s.hit }
    where
      go : (i : ℕ) → from ≤ i → i < r → (t : Bool) → leb k i ≡ t → candidate i ≡ false
      go i a b true l = s.passed i (leb-true k i l) b
      go i a b false l = p i a (leb-false k i l)

  pub next_later : (k : ℕ) (r : Option ℕ) → from ≤ k → ((i : ℕ) → from ≤ i → i < k → candidate i ≡ false) → IsNext candidate n k r → IsNext candidate n from r
  next_later k None h p s = later k n h p s
  next_later k (Some r) h p s = (later k r h p s.0, s.1)

-- ---- several corners at once

module _ (test : ℕ → Bool) (from : ℕ) where
  pub count_most : (k : ℕ) → count_from test from k ≤ k
  unfolding count_from
  count_most zero = omega arith
  count_most (suc k) = let h = count_most k in go (test (from + k)) h
    where
      go : (t : Bool) → count_from test from k ≤ k → count_from test from k + cond t 1 0 ≤ suc k
      go true h = omega arith
      go false h = omega arith

  pub count_is : (k : ℕ) → sum_by (λ i. one_if test (from + i)) (range_with_len 0 k) ≡ count_from test from k
  unfolding count_from
  count_is zero = refl
  count_is (suc k) =
      sym (sum-map at (range_with_len 0 (suc k))) ∙ ap (λ (n : ℕ). sum (map at (range_with_len 0 n))) (sym (add-one k))
      ∙ sum_by-map-range_with_len_more (λ x. x) at 0 k k (omega arith)
      ∙ ap (λ (n : ℕ). n + one_if test (from + k)) (sum-map at (range_with_len 0 k) ∙ count_is k)
    where
      at : ℕ → ℕ
      at i = one_if test (from + i)

  -- where none is counted, none passes
  pub count_none : (k : ℕ) → count_from test from k ≡ 0 → (i : ℕ) → from ≤ i → i < from + k → test i ≡ false
  unfolding count_from
  count_none zero e i a b = absurd (omega arith)
  count_none (suc k) e i a b = go (test (from + k)) refl e (λ z. count_none k z i a) (ℕ_discrete i (from + k))
    where
      go : (t : Bool) → test (from + k) ≡ t → count_from test from k + cond t 1 0 ≡ 0 → (count_from test from k ≡ 0 → i < from + k → test i ≡ false) → Dec (i ≡ from + k) → test i ≡ false
      go true f z w d = absurd (omega arith)
      go false f z w (yes d) = ap test d ∙ f
      go false f z w (no d) = w (omega arith) (omega arith)

-- a test as a number
pub byte_is : (t : Bool) → bool_byte t ≡ cond t 1 0
byte_is true = refl
byte_is false = refl

-- 32 corners of which none lies within the limit hold no candidate
module _ (position : ℕ → Position) (may : ℕ → Bool) (p : Position) (limit : Float) (from : ℕ) where
  abbrev pub NoneBefore : ℕ → Type 0
  NoneBefore k = (i : ℕ) → from ≤ i → i < k → is_within position may p limit i ≡ false

  pub block_passed : (k : ℕ) → NoneBefore k → count_from (is_near position p limit) k 32 ≡ 0 → NoneBefore (k + 32)
  block_passed k h e i a b = go (leb k i) refl
    where
      both : (t : Bool) → (t && false) ≡ false
      both true = refl
      both false = refl

      go : (t : Bool) → leb k i ≡ t → is_within position may p limit i ≡ false
      go true l = rw (count_none (is_near position p limit) k 32 e i (leb-true k i l) b) (both (may i))
      go false l = h i a (leb-false k i l)

-- ---- the scan up to a corner: what was found is right for those before it, and so is the limit

pub record Scanned (held : CornerArrays) (may : ℕ → Bool) (n : ℕ) (p : Position) (r : Float) (found : Found) (from : ℕ) : Type 0 where
  pub upto : from ≤ n
  pub so_far : candidates_in found ≡ first_two_below held may from p r
  pub limited : Limited (squared_radius r) found

-- ---- the whole scan

module _ (held : CornerArrays) (may : ℕ → Bool) (n : ℕ) (p : Position) (r : Float) where
  pub nowhere : finite_position p ≡ false → Empty ≡ first_two (candidates_at (positions_in held) may n p r)
  unfolding candidates_at first_two
  nowhere e = rw e

  -- how far a further one may be
  abbrev limit : Found → Float
  limit = limit_of (squared_radius r)

  -- what was found is right for those before the next within the limit
  scanned_on : (found : Found) (from k : ℕ) → Scanned held may n p r found from → Next (is_within (positions_in held) may p (limit found)) n from k → candidates_in found ≡ first_two_below held may k p r
  scanned_on found from k h s = skips (distance_of (positions_in held) p) (is_candidate (positions_in held) may p r) (candidates_in found) from k s.on after h.so_far
    where
      after : (i : ℕ) → from ≤ i → i < k → is_candidate (positions_in held) may p r i ≡ true
          → kept (candidates_in found) (nth (distance_of (positions_in held) p) i) ≡ candidates_in found
      after i a b h' =
          let n = beyond (positions_in held) may p r (limit found) i h' (s.passed i a b) in
          passed_over (squared_radius r) found (measured (positions_in held) p i) h.limited (squared (positions_in held) p (squared_radius r) i n.0) n.1

  pub scanned_start : Scanned held may n p r Found.Empty 0
  unfolding ordered first_two
  scanned_start = record { upto = omega arith; so_far = refl; limited = tt }

  -- one more candidate
  pub scanned_more : (found more : Found) (from k : ℕ) → Scanned held may n p r found from → IsNext (is_within (positions_in held) may p (limit found)) n from (Some k)
      → more ≡ narrowed found (measured (positions_in held) p k) → Scanned held may n p r more (k + 1)
  scanned_more found more from k h s e = record {
    upto = omega (arith, s.1);
    so_far =
        ap candidates_in e ∙ narrowed_found found c ∙ ap (λ (f : Candidates). kept f c.candidate) (scanned_on found from k h s.0)
        ∙ rw add-one (grows (distance_of (positions_in held) p) (is_candidate (positions_in held) may p r) k taken);
    limited =
        subst (λ (f : Found). Limited (squared_radius r) f) (sym e)
        (narrowed_limited (squared_radius r) found c h.limited (squared (positions_in held) p (squared_radius r) k near));
  }
    where
      c : Measured
      c = measured (positions_in held) p k

      taken : is_candidate (positions_in held) may p r k ≡ true
      taken = hits (positions_in held) may p r (limit found) k (limited_within (squared_radius r) found c.square h.limited) (s.0.hit s.1)

      near : le c.square (squared_radius r) ≡ true
      near = ((and-eq-true_iff (may k) (le c.square (squared_radius r))).0 taken).1

  -- no candidate is left that could change the first two
  pub scanned_all : (found : Found) (from : ℕ) → Scanned held may n p r found from → IsNext (is_within (positions_in held) may p (limit found)) n from None → finite_position p ≡ true
      → candidates_in found ≡ first_two (candidates_at (positions_in held) may n p r)
  unfolding candidates_at
  scanned_all found from h s f = scanned_on found from n h s ∙ rw f
