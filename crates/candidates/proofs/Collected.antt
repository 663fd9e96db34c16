-- The candidates at a prediction: which the list holds, that it is in order, and that their distances are finite and have no sign. Assumes nothing.
-- Where the squared radius is not finite, a squared distance may be infinite too, its root is refused, and the distance is nan.
use mathlib.Core.Path.{◌≡◌, refl, sym, ap, ap₂, subst}
use mathlib.Core.Bool.{Bool, true, false, ◌&&◌, cond, and-eq-true_iff}
use mathlib.Core.List.{List, []}
use Prim.Native.Nat.{ℕ, zero, suc, ◌<◌}
use native.Mathlib.Nat.{le_refl}
use lib.Dec.{T}
use lib.Ieee.{Float, nan, inf, fin, binary32, add, sub, mul, le, is_nan, fits}
use lib.Ieee.Fits.{add-fits}
use lib.Ieee.Scale.{finite}
use Rattle.float_order.specs.Unsigned.{plain}
use Rattle.float_order.proofs.Order.{le_no_nan}
use Rattle.float_order.proofs.Unsigned.{plain_no_nan, squares_plain, finite_under}
use Rattle.binary32.specs.Sqrt.{sqrt_or_nan}
use Rattle.binary32.proofs.Exists.{sqrt_unsigned, sqrt_fits}
use Rattle.sheet.specs.declared.Position.{Position}
use Rattle.sheet.specs.Corners.{squared_distance, finite_position}
use Rattle.candidates.specs.declared.Candidate.{Candidate}
use Rattle.candidates.specs.Candidates.{squared_radius, is_candidate, distance_of, insert_if, ordered, candidates_at}
use Rattle.candidates.specs.Listing.{Exactly, Sorted}
use Rattle.candidates.proofs.Listing.{nth, longer, exactly, sorted}

-- a distance: finite, with no sign, a value of the format
pub record Sound (x : Float) : Type 0 where
  pub unsigned : T (plain x)
  pub bounded : T (finite x)
  pub held : T (fits binary32 x)

pub sound_no_nan : (x : Float) → Sound x → is_nan x ≡ false
sound_no_nan x s = plain_no_nan x s.unsigned

-- the root of such a value is one too
root_sound : (x : Float) → Sound x → Sound (sqrt_or_nan x)
root_sound nan s = absurd s.unsigned
root_sound (inf t) s = absurd s.bounded
root_sound (fin true m e) s = absurd s.unsigned
root_sound (fin false m e) s =
    let r = sqrt_unsigned m e s.held in
    record {
      unsigned = subst (λ (v : Float). T (plain v)) (sym r.2) tt;
      bounded = subst (λ (v : Float). T (finite v)) (sym r.2) tt;
      held = sqrt_fits (fin false m e) s.held;
    }

module _ (position : ℕ → Position) (may : ℕ → Bool) (p : Position) (r : Float) where
  -- a candidate lies within the radius
  pub within : (k : ℕ) → is_candidate position may p r k ≡ true → le (squared_distance (position k) p) (squared_radius r) ≡ true
  within k h = ((and-eq-true_iff (may k) (le (squared_distance (position k) p) (squared_radius r))).0 h).1

  square_sound : T (finite (squared_radius r)) → (k : ℕ) → le (squared_distance (position k) p) (squared_radius r) ≡ true → Sound (squared_distance (position k) p)
  unfolding squared_distance
  square_sound small k h =
      let dx = sub binary32 (position k).x p.x in
      let dy = sub binary32 (position k).y p.y in
      let u : T (plain (add binary32 (mul binary32 dx dx) (mul binary32 dy dy))) = squares_plain binary32 dx dy (le_no_nan _ _ h).0 in
      record { unsigned = u; bounded = finite_under _ _ u small h; held = add-fits binary32 (mul binary32 dx dx) (mul binary32 dy dy) }

  -- so its distance is finite and has no sign
  pub distance_sound : T (finite (squared_radius r)) → (k : ℕ) → is_candidate position may p r k ≡ true → Sound (distance_of position p k)
  distance_sound small k h = root_sound (squared_distance (position k) p) (square_sound small k (within k h))

-- ---- the list

module _ (position : ℕ → Position) (may : ℕ → Bool) (n : ℕ) (p : Position) (r : Float) where
  pub candidates_none : finite_position p ≡ false → candidates_at position may n p r ≡ []
  unfolding candidates_at
  candidates_none e = rw e

  pub candidates_are : finite_position p ≡ true → candidates_at position may n p r ≡ ordered (distance_of position p) (is_candidate position may p r) n
  unfolding candidates_at
  candidates_are e = rw e

  -- exactly the candidates, each once
  pub candidates_exactly : finite_position p ≡ true → Exactly (distance_of position p) (is_candidate position may p r) n (candidates_at position may n p r)
  candidates_exactly e = rw (candidates_are e) (exactly (distance_of position p) (is_candidate position may p r) n)

  -- by distance, then corner number
  pub candidates_sorted : T (finite (squared_radius r)) → Sorted (candidates_at position may n p r)
  candidates_sorted small = go (finite_position p) refl
    where
      go : (t : Bool) → finite_position p ≡ t → Sorted (candidates_at position may n p r)
      go true e =
          rw (candidates_are e) (sorted (distance_of position p) (is_candidate position may p r) (λ k h. sound_no_nan _ (distance_sound position may p r small k h)) n)
      go false e = rw (candidates_none e) tt

-- ---- nothing but the corners below n counts

ordered_agrees : (distance distance' : ℕ → Float) (candidate candidate' : ℕ → Bool) (n : ℕ)
    → ((k : ℕ) → k < n → distance k ≡ distance' k) → ((k : ℕ) → k < n → candidate k ≡ candidate' k)
    → ordered distance candidate n ≡ ordered distance' candidate' n
unfolding ordered
ordered_agrees distance distance' candidate candidate' zero d c = refl
ordered_agrees distance distance' candidate candidate' (suc n) d c =
    go (ordered_agrees distance distance' candidate candidate' n (λ k h. d k (longer h)) (λ k h. c k (longer h))) (d n (le_refl (suc n))) (c n (le_refl (suc n)))
  where
    go : ordered distance candidate n ≡ ordered distance' candidate' n → distance n ≡ distance' n → candidate n ≡ candidate' n
        → insert_if (candidate n) (nth distance n) (ordered distance candidate n) ≡ insert_if (candidate' n) (nth distance' n) (ordered distance' candidate' n)
    go rest e f = rw (rest, e, f)

pub candidates_agree : (position position' : ℕ → Position) (may may' : ℕ → Bool) (n : ℕ) (p : Position) (r : Float)
    → ((k : ℕ) → k < n → position k ≡ position' k) → ((k : ℕ) → k < n → may k ≡ may' k)
    → candidates_at position may n p r ≡ candidates_at position' may' n p r
unfolding candidates_at
candidates_agree position position' may may' n p r same free =
    ap (λ (l : List Candidate). cond (finite_position p) l [])
    (ordered_agrees (distance_of position p) (distance_of position' p) (is_candidate position may p r) (is_candidate position' may' p r) n
    (λ k h. ap (λ (q : Position). sqrt_or_nan (squared_distance q p)) (same k h))
    (λ k h. ap₂ (λ (b : Bool) (q : Position). b && le (squared_distance q p) (squared_radius r)) (free k h) (same k h)))
