-- The candidates without one of them: where that one is farther than the first two, these stay. Assumes nothing.
use mathlib.Core.Path.{◌≡◌, refl, sym, ap, ◌∙◌}
use mathlib.Core.Bool.{Bool, true, false, not, ◌&&◌, cond, true≢false}
use mathlib.Core.List.Memᴰ
use mathlib.Core.List.{List, [], ◌∷◌, Memᴰ}
use mathlib.Core.Logic.{⊎_elim}
use Prim.Native.Nat.{ℕ, zero, suc}
use borrow.Author.Tests.{eqb-true}
use lib.Dec.{T, eqb}
use lib.Ieee.{Float, le, lt, is_nan}
use lib.Ieee.Scale.{finite}
use Rattle.float_order.proofs.Order.{lt_irrefl}
use Rattle.sheet.specs.declared.Position.{Position}
use Rattle.sheet.specs.Corners.{squared_distance, finite_position}
use Rattle.candidates.specs.declared.Candidate.{Candidate}
use Rattle.candidates.specs.declared.Candidates.{Candidates}
use Rattle.candidates.specs.Candidates.{squared_radius, is_candidate, distance_of, before, insert, insert_if, ordered, candidates_at, first_two, last_distance}
use Rattle.candidates.specs.Listing.{Exactly, Sorted}
use Rattle.candidates.proofs.Listing.{before_trans, before_not_farther, nth, exactly, sorted}
use Rattle.candidates.proofs.Collected.{sound_no_nan, distance_sound, candidates_none, candidates_are}

-- ---- a list without a corner

pub without : ℕ → List Candidate → List Candidate
without k [] = []
without k (a ∷ l) = cond (eqb k a.number) (without k l) (a ∷ without k l)

module _ (k : ℕ) where
  without_mem : (x : Candidate) (l : List Candidate) → Memᴰ x (without k l) → Memᴰ x l
  unfolding without
  without_mem x [] m = m
  without_mem x (a ∷ l) m = go (without_mem x l) (eqb k a.number) m
    where
      go : (Memᴰ x (without k l) → Memᴰ x l) → (t : Bool) → Memᴰ x (cond t (without k l) (a ∷ without k l)) → Memᴰ x (a ∷ l)
      go rest true m = Memᴰ.tail (rest m)
      go rest false m = ⊎_elim (λ e. Memᴰ.head e) (λ q. Memᴰ.tail (rest q)) (Memᴰ.cases_cons m)

  -- the corner itself, put in and left out again
  insert_gone : (c : Candidate) (l : List Candidate) → eqb k c.number ≡ true → without k (insert c l) ≡ without k l
  unfolding insert without
  insert_gone c [] e = rw e
  insert_gone c (b ∷ l) e = go (insert_gone c l e) (before c b)
    where
      go : without k (insert c l) ≡ without k l → (t : Bool) → without k (cond t (c ∷ b ∷ l) (b ∷ insert c l)) ≡ without k (b ∷ l)
      go rest true = rw e
      go rest false = ap (λ (m : List Candidate). cond (eqb k b.number) m (b ∷ m)) rest

  -- a candidate that stands before all others
  insert_front : (c : Candidate) (l : List Candidate) → ((x : Candidate) → Memᴰ x l → before c x ≡ true) → insert c l ≡ c ∷ l
  unfolding insert
  insert_front c [] h = refl
  insert_front c (b ∷ l) h = rw (h b (Memᴰ.head refl))

  -- another candidate, put in before or after
  insert_without : (c : Candidate) (l : List Candidate) → eqb k c.number ≡ false → is_nan c.distance ≡ false → ((x : Candidate) → Memᴰ x l → is_nan x.distance ≡ false) → Sorted l
      → insert c (without k l) ≡ without k (insert c l)
  unfolding insert without
  insert_without c [] e n s o = rw e
  insert_without c (b ∷ l) e n s o = go (eqb k b.number) refl (before c b) refl (insert_without c l e n (λ x m. s x (Memᴰ.tail m)) o.1)
    where
      go : (t : Bool) → eqb k b.number ≡ t → (u : Bool) → before c b ≡ u → insert c (without k l) ≡ without k (insert c l)
          → insert c (cond t (without k l) (b ∷ without k l)) ≡ without k (cond u (c ∷ b ∷ l) (b ∷ insert c l))
      go true f true g w =
          rw (e, f)
          (insert_front c (without k l)
          (λ x m. let q = without_mem x l m in before_trans c b x n (s b (Memᴰ.head refl)) (s x (Memᴰ.tail q)) g (o.0 x q)))
      go true f false g w = rw f w
      go false f true g w = rw (e, f, g)
      go false f false g w = rw (f, g) (ap (λ (m : List Candidate). b ∷ m) w)

-- ---- the ordered candidates without a corner

module _ (distance : ℕ → Float) (candidate candidate' : ℕ → Bool) (k : ℕ) (same : (j : ℕ) → candidate' j ≡ (not (eqb k j) && candidate j))
    (sane : (j : ℕ) → candidate j ≡ true → is_nan (distance j) ≡ false) where
  ordered_without : (n : ℕ) → ordered distance candidate' n ≡ without k (ordered distance candidate n)
  unfolding ordered without
  ordered_without zero = refl
  ordered_without (suc n) = go (eqb k n) refl (candidate n) refl (same n) (ordered_without n)
    where
      only : (x : Candidate) → Memᴰ x (ordered distance candidate n) → is_nan x.distance ≡ false
      only x m = let o = (exactly distance candidate n).only x m in ap is_nan o.at_distance ∙ sane x.number o.is_candidate_holds

      go : (t : Bool) → eqb k n ≡ t → (u : Bool) → candidate n ≡ u → candidate' n ≡ (not t && u) → ordered distance candidate' n ≡ without k (ordered distance candidate n)
          → insert_if (candidate' n) (nth distance n) (ordered distance candidate' n) ≡ without k (insert_if u (nth distance n) (ordered distance candidate n))
      go true e true f g w = rw g (w ∙ sym (insert_gone k (nth distance n) (ordered distance candidate n) e))
      go true e false f g w = rw g w
      go false e true f g w =
          rw (g, w)
          (insert_without k (nth distance n) (ordered distance candidate n) e (sane n f) only (sorted distance candidate sane n))
      go false e false f g w = rw g w

  -- a corner that is farther than the first two is neither of them
  first_stays : (n : ℕ) (l : List Candidate) → Exactly distance candidate n l → Sorted l → lt (last_distance (first_two l)) (distance k) ≡ true → first_two (without k l) ≡ first_two l
  unfolding first_two last_distance without
  first_stays n [] h s far = refl
  first_stays n (a ∷ []) h s far = go (eqb k a.number) refl
    where
      go : (t : Bool) → eqb k a.number ≡ t → first_two (cond t [] (a ∷ [])) ≡ Candidates.One a
      go true e = absurd (self a.distance ((h.only a (Memᴰ.head refl)).at_distance ∙ sym (ap distance (eqb-true _ _ e))) far)
        where
          self : (d : Float) → d ≡ distance k → lt d (distance k) ≡ true → ⊥
          self d e f = true≢false (sym f ∙ ap (λ (x : Float). lt x (distance k)) e ∙ lt_irrefl (distance k))
      go false e = refl
  first_stays n (a ∷ (b ∷ l)) h s far = go (eqb k a.number) refl (eqb k b.number) refl
    where
      go : (t : Bool) → eqb k a.number ≡ t → (u : Bool) → eqb k b.number ≡ u → first_two (cond t (cond u (without k l) (b ∷ without k l)) (a ∷ cond u (without k l) (b ∷ without k l))) ≡ Candidates.Several a b.distance
      go true e u f =
          absurd (true≢false (sym far ∙ ap (lt b.distance) (ap distance (eqb-true _ _ e) ∙ sym (h.only a (Memᴰ.head refl)).at_distance)
          ∙ before_not_farther a b (s.0 b (Memᴰ.head refl))))
      go false e true f =
          absurd (true≢false (sym far ∙ ap (lt b.distance) (ap distance (eqb-true _ _ f) ∙ sym (h.only b (Memᴰ.tail (Memᴰ.head refl))).at_distance)
          ∙ lt_irrefl b.distance))
      go false e false f = refl

  ordered_stays : (n : ℕ) → lt (last_distance (first_two (ordered distance candidate n))) (distance k) ≡ true → first_two (ordered distance candidate' n) ≡ first_two (ordered distance candidate n)
  ordered_stays n far =
      ap first_two (ordered_without n)
      ∙ first_stays n (ordered distance candidate n) (exactly distance candidate n) (sorted distance candidate sane n) far

-- ---- the candidates at a prediction, once a corner is labelled that is farther than the first two

module _ (position : ℕ → Position) (may may' : ℕ → Bool) (n : ℕ) (p : Position) (r : Float) (small : T (finite (squared_radius r)))
    (k : ℕ) (same : (j : ℕ) → may' j ≡ (not (eqb k j) && may j)) where
  pub first_two_stay : lt (last_distance (first_two (candidates_at position may n p r))) (distance_of position p k) ≡ true
      → first_two (candidates_at position may' n p r) ≡ first_two (candidates_at position may n p r)
  first_two_stay far = go (finite_position p) refl
    where
      and_assoc : (a b c : Bool) → ((a && b) && c) ≡ (a && (b && c))
      and_assoc true b c = refl
      and_assoc false b c = refl

      go : (t : Bool) → finite_position p ≡ t → first_two (candidates_at position may' n p r) ≡ first_two (candidates_at position may n p r)
      go false e = rw (candidates_none position may n p r e, candidates_none position may' n p r e)
      go true e =
          rw (candidates_are position may n p r e, candidates_are position may' n p r e)
          (ordered_stays (distance_of position p) (is_candidate position may p r) (is_candidate position may' p r) k
          (λ j. ap (λ (b : Bool). b && le (squared_distance (position j) p) (squared_radius r)) (same j) ∙ and_assoc (not (eqb k j)) (may j) (le (squared_distance (position j) p) (squared_radius r)))
          (λ j h. sound_no_nan _ (distance_sound position may p r small j h)) n
          (rw (candidates_are position may n p r e) at far))
