-- Laws of tests of the numbers below a number: the list of those that pass, and whether one passes. Assumes nothing.
use mathlib.Core.Path.{◌≡◌, refl, sym, ap, ap₂, ◌∙◌}
use mathlib.Core.Bool.{Bool, true, false, cond, ◌&&◌, ◌||◌, true≢false}
use mathlib.Core.List.Memᴰ
use mathlib.Core.List.{List, [], ◌∷◌, ◌++◌, append-nil, Memᴰ}
use mathlib.Core.Logic.{◌⊎◌, inl, inr}
use Prim.Native.Nat.{ℕ, zero, suc, ◌+◌, ◌<◌, ◌≤◌}
use native.Mathlib.Nat.{not-suc-le-zero}
use native.Mathlib.Decide.{ℕ_discrete}
use native.Mathlib.Numerals.{add-one}
use native.Mathlib.Omega.{arith}
use lib.ListN.{length, get_or, length-append, get_or-append}
use lib.Seq.{get_or-append_seam}
use Rattle.sheet.specs.Blank.{NextWritten}
use Rattle.sheet.proofs.Blank.{skips}
use Rattle.labels.specs.Labelled.{passing, any_below, Rising}

pub no_both : (t : Bool) → t ≡ true → t ≡ false → ⊥
no_both t a b = true≢false (sym a ∙ b)

pub both : (a b : Bool) → (a && b) ≡ true → (a ≡ true) × (b ≡ true)
both true b e = (refl, e)
both false b e = absurd (no_both false e refl)

-- ---- the numbers that pass, one more looked at

pub passing_none : (f : ℕ → Bool) → passing f 0 ≡ []
unfolding passing
passing_none f = refl

pub passing_more : (f : ℕ → Bool) (n : ℕ) → passing f (n + 1) ≡ passing f n ++ cond (f n) (n ∷ []) []
unfolding passing
passing_more f n = rw add-one

pub passing_hit : (f : ℕ → Bool) (n : ℕ) → f n ≡ true → passing f (n + 1) ≡ passing f n ++ (n ∷ [])
passing_hit f n e = passing_more f n ∙ ap (λ (t : Bool). passing f n ++ cond t (n ∷ []) []) e

pub passing_miss : (f : ℕ → Bool) (n : ℕ) → f n ≡ false → passing f (n + 1) ≡ passing f n
passing_miss f n e = passing_more f n ∙ ap (λ (t : Bool). passing f n ++ cond t (n ∷ []) []) e ∙ append-nil (passing f n)

-- ---- a number is among them exactly if it is below n and passes

pub in_passing : (f : ℕ → Bool) (n p : ℕ) → p < n → f p ≡ true → Memᴰ p (passing f n)
unfolding passing
in_passing f zero p h e = absurd (not-suc-le-zero h)
in_passing f (suc n) p h e = go (λ l. in_passing f n p l e) (ℕ_discrete p n)
  where
    go : (p < n → Memᴰ p (passing f n)) → Dec (p ≡ n) → Memᴰ p (passing f n ++ cond (f n) (n ∷ []) [])
    go w (yes d) = rw (sym (ap f d) ∙ e) (Memᴰ.append_right (passing f n) (Memᴰ.head d))
    go w (no d) = Memᴰ.append_left _ (w (omega arith))

pub passing_in : (f : ℕ → Bool) (n p : ℕ) → Memᴰ p (passing f n) → (p < n) × (f p ≡ true)
unfolding passing
passing_in f zero p m = absurd (Memᴰ.not-nil m)
passing_in f (suc n) p m = go (passing_in f n p) (Memᴰ.append_cases (passing f n) m)
  where
    last : (t : Bool) → f n ≡ t → Memᴰ p (cond t (n ∷ []) []) → (p < suc n) × (f p ≡ true)
    last true e w = let d = Memᴰ.eq_of_singleton w in (omega arith, ap f d ∙ e)
    last false e w = absurd (Memᴰ.not-nil w)

    go : (Memᴰ p (passing f n) → (p < n) × (f p ≡ true)) → Memᴰ p (passing f n) ⊎ Memᴰ p (cond (f n) (n ∷ []) []) → (p < suc n) × (f p ≡ true)
    go w (inl a) = let r = w a in (omega arith, r.1)
    go w (inr b) = last (f n) refl b

-- ---- two tests that agree below n

pub passing_ext : (f g : ℕ → Bool) (n : ℕ) → ((p : ℕ) → p < n → f p ≡ g p) → passing f n ≡ passing g n
unfolding passing
passing_ext f g zero h = refl
passing_ext f g (suc n) h =
    ap₂ ◌++◌ (passing_ext f g n (λ p l. h p (omega arith))) (ap (λ (t : Bool). cond t (n ∷ []) []) (h n (omega arith)))

-- ---- how many pass

length_at : (t : Bool) (n : ℕ) → length (cond t (n ∷ []) []) ≤ 1
length_at true n = omega arith
length_at false n = omega arith

-- at most n
pub passing_few : (f : ℕ → Bool) (n : ℕ) → length (passing f n) ≤ n
unfolding passing
passing_few f zero = omega arith
passing_few f (suc n) = rw length-append (omega (arith, passing_few f n, length_at (f n) n))

-- one more if one number more passes
pub passing_one_more : (f g : ℕ → Bool) (n p : ℕ) → p < n → f p ≡ false → g p ≡ true → ((q : ℕ) → q < n → (q ≡ p → ⊥) → g q ≡ f q) → length (passing g n) ≡ length (passing f n) + 1
unfolding passing
passing_one_more f g zero p h a b same = absurd (not-suc-le-zero h)
passing_one_more f g (suc n) p h a b same = go (ℕ_discrete p n) (λ l. passing_one_more f g n p l a b (λ q k. same q (omega arith)))
  where
    go : Dec (p ≡ n) → (p < n → length (passing g n) ≡ length (passing f n) + 1) → length (passing g n ++ cond (g n) (n ∷ []) []) ≡ length (passing f n ++ cond (f n) (n ∷ []) []) + 1
    go (yes d) w =
        let e : passing g n ≡ passing f n = passing_ext g f n (λ q k. same q (omega arith) (λ z. omega arith)) in
        rw (length-append (passing g n), length-append (passing f n), sym (ap g d) ∙ b, sym (ap f d) ∙ a, e) (omega arith)
    go (no d) w =
        let e : g n ≡ f n = same n (omega arith) (λ z. d (sym z)) in
        rw (length-append (passing g n), length-append (passing f n), e) (let r = w (omega arith) in omega arith)

-- ---- they rise

module _ (l : List ℕ) (n : ℕ) (below : (a : ℕ) → a < length l → get_or l a 0 < n) where
  snoc_below : (a : ℕ) → a < length (l ++ (n ∷ [])) → get_or (l ++ (n ∷ [])) a 0 < suc n
  snoc_below a h = go (ℕ_discrete a (length l))
    where
      go : Dec (a ≡ length l) → get_or (l ++ (n ∷ [])) a 0 < suc n
      go (yes d) = rw (d, get_or-append_seam l n [] 0) (omega arith)
      go (no d) =
          let k : a < length l = omega (arith, length-append l (n ∷ [])) in
          rw (get_or-append l (n ∷ []) 0 a k) (omega (arith, below a k))

  snoc_rises : Rising l → Rising (l ++ (n ∷ []))
  snoc_rises r = record { rises = λ a b h k. go a b h k (ℕ_discrete b (length l)) }
    where
      go : (a b : ℕ) → a < b → b < length (l ++ (n ∷ [])) → Dec (b ≡ length l) → get_or (l ++ (n ∷ [])) a 0 < get_or (l ++ (n ∷ [])) b 0
      go a b h k (yes d) =
          let m : a < length l = omega arith in
          rw (d, get_or-append_seam l n [] 0, get_or-append l (n ∷ []) 0 a m) (below a m)
      go a b h k (no d) =
          let m : b < length l = omega (arith, length-append l (n ∷ [])) in
          let o : a < length l = omega arith in
          rw (get_or-append l (n ∷ []) 0 a o, get_or-append l (n ∷ []) 0 b m) (r.rises a b h m)

-- each is below n
pub passing_below : (f : ℕ → Bool) (n a : ℕ) → a < length (passing f n) → get_or (passing f n) a 0 < n
unfolding passing
passing_below f zero a h = absurd (not-suc-le-zero h)
passing_below f (suc n) a h = go (f n) (passing_below f n) h
  where
    go : (t : Bool) → ((b : ℕ) → b < length (passing f n) → get_or (passing f n) b 0 < n) → a < length (passing f n ++ cond t (n ∷ []) []) → get_or (passing f n ++ cond t (n ∷ []) []) a 0 < suc n
    go true w k = snoc_below (passing f n) n w a k
    go false w k = rw append-nil (let r = w a (rw append-nil at k) in omega arith)

pub passing_rises : (f : ℕ → Bool) (n : ℕ) → Rising (passing f n)
unfolding passing
passing_rises f zero = record { rises = λ a b h k. absurd (not-suc-le-zero k) }
passing_rises f (suc n) = go (f n) (passing_rises f n)
  where
    go : (t : Bool) → Rising (passing f n) → Rising (passing f n ++ cond t (n ∷ []) [])
    go true w = snoc_rises (passing f n) n (passing_below f n) w
    go false w = rw append-nil w

-- ---- whether one passes

-- a number below n that passes
pub record Passes (f : ℕ → Bool) (n : ℕ) : Type 0 where
  pub number : ℕ
  pub below : number < n
  pub passes : f number ≡ true

pub any_hit : (f : ℕ → Bool) (n p : ℕ) → p < n → f p ≡ true → any_below n f ≡ true
unfolding any_below
any_hit f zero p h e = absurd (not-suc-le-zero h)
any_hit f (suc n) p h e = go (ℕ_discrete p n) (λ l. any_hit f n p l e) (f n) refl
  where
    go : Dec (p ≡ n) → (p < n → any_below n f ≡ true) → (t : Bool) → f n ≡ t → (t || any_below n f) ≡ true
    go d w true q = refl
    go (yes d) w false q = absurd (no_both (f p) e (ap f d ∙ q))
    go (no d) w false q = w (omega arith)

pub any_yes : (f : ℕ → Bool) (n : ℕ) → any_below n f ≡ true → Passes f n
unfolding any_below
any_yes f zero e = absurd (no_both false e refl)
any_yes f (suc n) e = go (f n) refl (any_yes f n) e
  where
    go : (t : Bool) → f n ≡ t → (any_below n f ≡ true → Passes f n) → (t || any_below n f) ≡ true → Passes f (suc n)
    go true q w k = record { number = n; below = omega arith; passes = q }
    go false q w k = let r = w k in record { number = r.number; below = omega arith; passes = r.passes }

-- none passes
pub any_none : (f : ℕ → Bool) (n p : ℕ) → any_below n f ≡ false → p < n → f p ≡ false
any_none f n p h l = go (f p) refl
  where
    go : (t : Bool) → f p ≡ t → t ≡ false
    go false e = refl
    go true e = absurd (no_both (any_below n f) (any_hit f n p l e) h)

pub any_no : (f : ℕ → Bool) (n : ℕ) → ((p : ℕ) → p < n → f p ≡ false) → any_below n f ≡ false
unfolding any_below
any_no f zero h = refl
any_no f (suc n) h = rw (h n (omega arith)) (any_no f n (λ p l. h p (omega arith)))

pub any_ext : (f g : ℕ → Bool) (n : ℕ) → ((p : ℕ) → p < n → f p ≡ g p) → any_below n f ≡ any_below n g
unfolding any_below
any_ext f g zero h = refl
any_ext f g (suc n) h = ap₂ ◌||◌ (h n (omega arith)) (any_ext f g n (λ p l. h p (omega arith)))

-- one more looked at
pub any_start : (f : ℕ → Bool) → any_below 0 f ≡ false
unfolding any_below
any_start f = refl

pub any_more : (f : ℕ → Bool) (n : ℕ) → any_below (n + 1) f ≡ (f n || any_below n f)
unfolding any_below
any_more f n = rw add-one

-- a search that goes up from 0 and stops at the first that passes, at the number i
pub record Searching (f : ℕ → Bool) (n i : ℕ) : Type 0 where
  pub upto : i ≤ n
  pub so_far : any_below i f ≡ false

pub searching_start : (f : ℕ → Bool) (n : ℕ) → Searching f n 0
searching_start f n = record { upto = omega arith; so_far = any_start f }

module _ (f : ℕ → Bool) (n i : ℕ) (s : Searching f n i) where
  pub searching_more : i < n → f i ≡ false → Searching f n (i + 1)
  searching_more h e = record { upto = omega arith; so_far = any_more f i ∙ rw e s.so_far }

  pub searching_hit : i < n → f i ≡ true → true ≡ any_below n f
  searching_hit h e = sym (any_hit f n i h e)

  pub searching_end : n ≤ i → false ≡ any_below n f
  searching_end h = let q : n ≡ i = omega arith in rw q (sym s.so_far)

-- a search over the places of a sheet for what a place that holds nothing never is
pub searching_skips : (sheet : List ℕ) (f : ℕ → Bool) → ((p : ℕ) → get_or sheet p 0 ≡ 0 → f p ≡ false) → {p r : ℕ} → Searching f 16384 p → NextWritten sheet p r → Searching f 16384 r
searching_skips sheet f none g w = skips sheet (Searching f 16384) (λ q h e s. searching_more f 16384 q s h (none q e)) w g
