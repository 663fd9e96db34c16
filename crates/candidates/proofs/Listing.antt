-- The ordered candidates: the list holds exactly the candidates, each once, and, their distances being no nan, it is sorted by distance,
-- then corner number. Assumes nothing.
use mathlib.Core.Path.{◌≡◌, refl, sym, ap, ◌∙◌, subst}
use mathlib.Core.Bool.{Bool, true, false, not, ◌&&◌, ◌||◌, cond, true≢false}
use mathlib.Core.List.Memᴰ
use mathlib.Core.List.{List, [], ◌∷◌, Memᴰ}
use mathlib.Core.Logic.{◌⊎◌, inl, inr, ⊎_elim}
use Prim.Native.Nat.{ℕ, zero, suc, ◌<◌}
use native.Mathlib.Nat.{eq-or-lt_of_le, le_of_suc-le-suc, not-suc-le-zero, le_refl}
use native.Mathlib.Omega.{arith}
use borrow.Author.Tests.{le-ltb, lt-ltb, ltb-true}
use lib.Dec.{ltb}
use lib.Ieee.{Float, lt, is_nan}
use Rattle.float_order.proofs.Order as order
use Rattle.candidates.specs.declared.Candidate.{Candidate}
use Rattle.candidates.specs.Candidates.{before, insert, insert_if, ordered}
use Rattle.candidates.specs.Listing.{IsOne, Once, Exactly, Sorted}

-- ---- `before`

pub before_nearer : (a b : Candidate) → lt a.distance b.distance ≡ true → before a b ≡ true
before_nearer a b h = rw h

pub before_as_near : (a b : Candidate) → lt b.distance a.distance ≡ false → a.number < b.number → before a b ≡ true
before_as_near a b h k = rw (h, lt-ltb a.number b.number k) (go (lt a.distance b.distance))
  where
    go : (t : Bool) → (t || true) ≡ true
    go true = refl
    go false = refl

pub before_cases : (a b : Candidate) → before a b ≡ true → (lt a.distance b.distance ≡ true) ⊎ ((lt b.distance a.distance ≡ false) × (a.number < b.number))
before_cases a b h = go (lt a.distance b.distance) refl (lt b.distance a.distance) refl (ltb a.number b.number) refl h
  where
    go : (t : Bool) → lt a.distance b.distance ≡ t → (u : Bool) → lt b.distance a.distance ≡ u → (v : Bool) → ltb a.number b.number ≡ v → (t || (not u && v)) ≡ true
        → (lt a.distance b.distance ≡ true) ⊎ ((lt b.distance a.distance ≡ false) × (a.number < b.number))
    go true e u f v g h = inl e
    go false e true f v g h = absurd (true≢false (sym h))
    go false e false f true g h = inr (f, ltb-true _ _ g)
    go false e false f false g h = absurd (true≢false (sym h))

-- of a later number nothing but the distance counts
pub before_later : (a c : Candidate) → a.number < c.number → before c a ≡ lt c.distance a.distance
before_later a c h = rw (le-ltb c.number a.number (omega arith)) (go (lt c.distance a.distance) (lt a.distance c.distance))
  where
    go : (t u : Bool) → (t || (not u && false)) ≡ t
    go true u = refl
    go false true = refl
    go false false = refl

pub before_trans : (a b c : Candidate) → is_nan a.distance ≡ false → is_nan b.distance ≡ false → is_nan c.distance ≡ false → before a b ≡ true → before b c ≡ true → before a c ≡ true
before_trans a b c x y z h k = go (before_cases a b h) (before_cases b c k)
  where
    go : (lt a.distance b.distance ≡ true) ⊎ ((lt b.distance a.distance ≡ false) × (a.number < b.number))
        → (lt b.distance c.distance ≡ true) ⊎ ((lt c.distance b.distance ≡ false) × (b.number < c.number)) → before a c ≡ true
    go (inl p) (inl q) = before_nearer a c (order.lt_trans a.distance b.distance c.distance p q)
    go (inl p) (inr q) = before_nearer a c (order.lt_not_lt_trans a.distance b.distance c.distance z p q.0)
    go (inr p) (inl q) = before_nearer a c (order.not_lt_lt_trans a.distance b.distance c.distance x p.0 q)
    go (inr p) (inr q) =
        let l = p.1 in
        let m = q.1 in
        before_as_near a c (order.not_lt_trans c.distance b.distance a.distance y q.0 p.0) (omega arith)

-- what stands before another is not farther
pub before_not_farther : (a b : Candidate) → before a b ≡ true → lt b.distance a.distance ≡ false
before_not_farther a b h = ⊎_elim (λ p. order.lt_asym a.distance b.distance p) (λ p. p.0) (before_cases a b h)

-- ---- `insert`

pub insert_mem : (x c : Candidate) (l : List Candidate) → Memᴰ x (insert c l) → (x ≡ c) ⊎ Memᴰ x l
unfolding insert
insert_mem x c [] m = Memᴰ.cases_cons m
insert_mem x c (b ∷ l) m = go (insert_mem x c l) (before c b) m
  where
    go : (Memᴰ x (insert c l) → (x ≡ c) ⊎ Memᴰ x l) → (t : Bool) → Memᴰ x (cond t (c ∷ b ∷ l) (b ∷ insert c l)) → (x ≡ c) ⊎ Memᴰ x (b ∷ l)
    go rest true m = Memᴰ.cases_cons m
    go rest false m = ⊎_elim (λ e. inr (Memᴰ.head e)) (λ k. ⊎_elim (λ e. inl e) (λ q. inr (Memᴰ.tail q)) (rest k)) (Memᴰ.cases_cons m)

pub insert_new : (c : Candidate) (l : List Candidate) → Memᴰ c (insert c l)
unfolding insert
insert_new c [] = Memᴰ.head refl
insert_new c (b ∷ l) = go (insert_new c l) (before c b)
  where
    go : Memᴰ c (insert c l) → (t : Bool) → Memᴰ c (cond t (c ∷ b ∷ l) (b ∷ insert c l))
    go rest true = Memᴰ.head refl
    go rest false = Memᴰ.tail rest

pub insert_old : (x c : Candidate) (l : List Candidate) → Memᴰ x l → Memᴰ x (insert c l)
unfolding insert
insert_old x c [] m = absurd (Memᴰ.not-nil m)
insert_old x c (b ∷ l) m = go (insert_old x c l) (before c b)
  where
    go : (Memᴰ x l → Memᴰ x (insert c l)) → (t : Bool) → Memᴰ x (cond t (c ∷ b ∷ l) (b ∷ insert c l))
    go rest true = Memᴰ.tail m
    go rest false = ⊎_elim (λ e. Memᴰ.head e) (λ k. Memᴰ.tail (rest k)) (Memᴰ.cases_cons m)

-- a number above all others
Later : Candidate → List Candidate → Type 0
Later c l = (x : Candidate) → Memᴰ x l → x.number < c.number

below_later : (x c : Candidate) → x.number < c.number → x.number ≡ c.number → ⊥
below_later x c h e = omega arith

insert_once : (c : Candidate) (l : List Candidate) → Later c l → Once l → Once (insert c l)
unfolding insert Later
insert_once c [] h o = ((λ b m e. Memᴰ.not-nil m), tt)
insert_once c (b ∷ l) h o = go (insert_once c l (λ x m. h x (Memᴰ.tail m)) o.1) (before c b)
  where
    go : Once (insert c l) → (t : Bool) → Once (cond t (c ∷ b ∷ l) (b ∷ insert c l))
    go rest true = ((λ x m e. below_later x c (h x m) (sym e)), o)
    go rest false =
        ((λ x m e. ⊎_elim (λ q. below_later b c (h b (Memᴰ.head refl)) (e ∙ ap (λ (y : Candidate). y.number) q)) (λ q. o.0 x q e) (insert_mem x c l m)), rest)

-- no distance is nan
Sane : List Candidate → Type 0
Sane l = (x : Candidate) → Memᴰ x l → is_nan x.distance ≡ false

insert_sorted : (c : Candidate) (l : List Candidate) → is_nan c.distance ≡ false → Later c l → Sane l → Sorted l → Sorted (insert c l)
unfolding insert Later Sane
insert_sorted c [] n h s o = ((λ b m. absurd (Memᴰ.not-nil m)), tt)
insert_sorted c (b ∷ l) n h s o = go (insert_sorted c l n (λ x m. h x (Memᴰ.tail m)) (λ x m. s x (Memᴰ.tail m)) o.1) (before c b) refl
  where
    b_in : Memᴰ b (b ∷ l)
    b_in = Memᴰ.head refl

    go : Sorted (insert c l) → (t : Bool) → before c b ≡ t → Sorted (cond t (c ∷ b ∷ l) (b ∷ insert c l))
    go rest true e = (
      (λ x m. ⊎_elim
          (λ q. subst (λ (y : Candidate). before c y ≡ true) (sym q) e)
          (λ q. before_trans c b x n (s b b_in) (s x m) e (o.0 x q)) (Memᴰ.cases_cons m)),
      o,
    )
    go rest false e = (
      (λ x m. ⊎_elim
          (λ q. subst (λ (y : Candidate). before b y ≡ true) (sym q) (before_as_near b c (sym (before_later b c (h b b_in)) ∙ e) (h b b_in)))
          (λ q. o.0 x q) (insert_mem x c l m)),
      rest,
    )

-- ---- the list

last : {P : Type 0} (i n : ℕ) → i < suc n → (i < n → P) → (i ≡ n → P) → P
last i n h f g = elim (eq-or-lt_of_le (le_of_suc-le-suc h)) [ inl e ↦ g e | inr l ↦ f l ]

pub longer : {a n : ℕ} → a < n → a < suc n
longer h = omega arith

-- corner k as a candidate
abbrev pub nth : (ℕ → Float) → ℕ → Candidate
nth distance k = record { number = k; distance = distance k }

module _ (distance : ℕ → Float) (candidate : ℕ → Bool) where
  -- one more corner that is no candidate, and one that is
  skipped : (n : ℕ) (l : List Candidate) → candidate n ≡ false → Exactly distance candidate n l → Exactly distance candidate (suc n) l
  skipped n l e₀ h =
      record {
        all = λ k m e. last k n m (λ q. h.all k q e) (λ q. absurd (true≢false (sym e ∙ ap candidate q ∙ e₀)));
        only = λ c m. let o = h.only c m in record { there = longer o.there; is_candidate_holds = o.is_candidate_holds; at_distance = o.at_distance };
        once = h.once;
      }

  added : (n : ℕ) (l : List Candidate) → candidate n ≡ true → Exactly distance candidate n l → Exactly distance candidate (suc n) (insert (nth distance n) l)
  unfolding Later
  added n l e₀ h =
      record {
        all = λ k m e. last k n m (λ q. insert_old (nth distance k) (nth distance n) l (h.all k q e)) (λ q. subst (λ (j : ℕ). Memᴰ (nth distance j) (insert (nth distance n) l)) (sym q) (insert_new (nth distance n) l));
        only = λ c m. ⊎_elim
            (λ q. subst (IsOne distance candidate (suc n)) (sym q) (record { there = le_refl (suc n); is_candidate_holds = e₀; at_distance = refl }))
            (λ q. let o = h.only c q in record { there = longer o.there; is_candidate_holds = o.is_candidate_holds; at_distance = o.at_distance })
            (insert_mem c (nth distance n) l m);
        once = insert_once (nth distance n) l (λ x m. (h.only x m).there) h.once;
      }

-- the list holds exactly the candidates among the first n corners, each once
pub exactly : (distance : ℕ → Float) (candidate : ℕ → Bool) (n : ℕ) → Exactly distance candidate n (ordered distance candidate n)
unfolding ordered
exactly distance candidate zero =
    record { all = λ k m e. absurd (not-suc-le-zero m); only = λ c m. absurd (Memᴰ.not-nil m); once = tt }
exactly distance candidate (suc n) = go (exactly distance candidate n) (candidate n) refl
  where
    go : Exactly distance candidate n (ordered distance candidate n) → (t : Bool) → candidate n ≡ t → Exactly distance candidate (suc n) (insert_if t (nth distance n) (ordered distance candidate n))
    go rest true e = added distance candidate n (ordered distance candidate n) e rest
    go rest false e = skipped distance candidate n (ordered distance candidate n) e rest

-- and, no candidate's distance being nan, it is sorted by distance, then corner number
pub sorted : (distance : ℕ → Float) (candidate : ℕ → Bool) → ((k : ℕ) → candidate k ≡ true → is_nan (distance k) ≡ false) → (n : ℕ) → Sorted (ordered distance candidate n)
unfolding ordered Later Sane
sorted distance candidate sane zero = tt
sorted distance candidate sane (suc n) = go (sorted distance candidate sane n) (candidate n) refl
  where
    only : (x : Candidate) → Memᴰ x (ordered distance candidate n) → IsOne distance candidate n x
    only = (exactly distance candidate n).only

    go : Sorted (ordered distance candidate n) → (t : Bool) → candidate n ≡ t → Sorted (insert_if t (nth distance n) (ordered distance candidate n))
    go rest true e =
        insert_sorted (nth distance n) (ordered distance candidate n) (sane n e)
        (λ x m. (only x m).there)
        (λ x m. ap is_nan (only x m).at_distance ∙ sane x.number (only x m).is_candidate_holds) rest
    go rest false e = rest
