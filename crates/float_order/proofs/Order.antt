-- The order of floats, over all values but nan: `lt` is asymmetric and transitive, "not below" is carried on, and `le` is `lt` the other way round, denied.
-- Assumes nothing.
use mathlib.Core.Path.{◌≡◌, refl, sym, ap, ◌∙◌}
use mathlib.Core.Bool.{Bool, true, false, not, ◌&&◌, ◌||◌, and-false, true≢false}
use Prim.Native.Nat.{ℕ, zero, suc, ◌+◌, ◌*◌, ◌≤◌, ◌<◌}
use native.Mathlib.Nat.{le_of_lt, mul-pos, zero-mul}
use native.Mathlib.Omega.{arith}
use borrow.Author.Tests.{le-ltb, ltb-true, ltb-false, eq-eqb, ne_eqb, eqb-true, eqb-false, not-true, not-false}
use lib.Dec.{ltb, eqb}
use lib.Ieee.{Float, nan, inf, fin, up, down, lt, le, below, level, is_nan}
use lib.Ieee.Fits.{down_pos}
use lib.Ieee.Positive.{through}

-- ---- fractions with a sign

none : (a q : ℕ) → 0 < q → a * q ≤ 0 → a ≡ 0
none zero q h k = refl
none (suc a) q h k = absurd (no (suc a * q) (mul-pos (some a) h) k)
  where
    no : (n : ℕ) → 0 < n → n ≤ 0 → ⊥
    no n h k = omega arith

    some : (a : ℕ) → 0 < suc a
    some a = omega arith

first : (x y : ℕ) → x + y ≤ 0 → x ≤ 0
first x y h = omega arith

second : (x y : ℕ) → x + y ≤ 0 → y ≤ 0
second x y h = omega arith

other : (s : Bool) (x : ℕ) (t : Bool) (y : ℕ) → below s x t y ≡ true → below t y s x ≡ false
other false x false y h = le-ltb y x (le_of_lt (ltb-true x y h))
other false x true y h = absurd (true≢false (sym h))
other true x false y h = refl
other true x true y h = le-ltb x y (le_of_lt (ltb-true y x h))

-- ±a / p not below ±b / q, and that not below ±c / r
past : (s : Bool) (a p : ℕ) (t : Bool) (b q : ℕ) (u : Bool) (c r : ℕ) → 0 < p → 0 < q → 0 < r
    → below s (a * q) t (b * p) ≡ false → below t (b * r) u (c * q) ≡ false → below s (a * r) u (c * p) ≡ false
past false a p false b q false c r P Q R h k = le-ltb (a * r) (c * p) (through c b a r q p Q (ltb-false _ _ k) (ltb-false _ _ h))
past false a p false b q true c r P Q R h k = refl
past false a p true b q false c r P Q R h k = rw (none c q Q (second (b * r) (c * q) (ltb-false _ _ k)), zero-mul) (le-ltb (a * r) 0 (omega arith))
past false a p true b q true c r P Q R h k = refl
past true a p false b q false c r P Q R h k =
    let a0 : a ≡ 0 = none a q Q (first (a * q) (b * p) (ltb-false _ _ h)) in
    let b0 : b ≡ 0 = none b p P (second (a * q) (b * p) (ltb-false _ _ h)) in
    let c0 : c ≡ 0 = none c q Q (rw (b0, zero-mul) at (ltb-false (b * r) (c * q) k)) in
    rw (a0, c0, zero-mul r, zero-mul p)
past true a p false b q true c r P Q R h k = rw (none a q Q (first (a * q) (b * p) (ltb-false _ _ h)), zero-mul) (le-ltb (c * p) 0 (omega arith))
past true a p true b q false c r P Q R h k =
    let b0 : b ≡ 0 = none b r R (first (b * r) (c * q) (ltb-false _ _ k)) in
    let c0 : c ≡ 0 = none c q Q (second (b * r) (c * q) (ltb-false _ _ k)) in
    let a0 : a ≡ 0 = none a q Q (rw (b0, zero-mul) at (ltb-false (b * p) (a * q) h)) in
    rw (a0, c0, zero-mul r, zero-mul p)
past true a p true b q true c r P Q R h k = le-ltb (c * p) (a * r) (through a b c p q r Q (ltb-false _ _ h) (ltb-false _ _ k))

le_ℕ : (a b : ℕ) → (ltb a b || (eqb a b && true)) ≡ not (ltb b a)
le_ℕ a b = go (ltb b a) refl (ltb a b) refl
  where
    go : (t : Bool) → ltb b a ≡ t → (u : Bool) → ltb a b ≡ u → (u || (eqb a b && true)) ≡ not t
    go true e true f = absurd (no a b (ltb-true b a e) (ltb-true a b f))
      where
        no : (a b : ℕ) → b < a → a < b → ⊥
        no a b h k = omega arith
    go true e false f = rw (ne_eqb a b (λ q. no a b (ltb-true b a e) q))
      where
        no : (a b : ℕ) → b < a → a ≡ b → ⊥
        no a b h k = omega arith
    go false e true f = refl
    go false e false f = rw (eq-eqb a b (is a b (ltb-false b a e) (ltb-false a b f)))
      where
        is : (a b : ℕ) → a ≤ b → b ≤ a → a ≡ b
        is a b h k = omega arith

eqb_comm : (a b : ℕ) → eqb a b ≡ eqb b a
eqb_comm a b = go (eqb b a) refl
  where
    go : (t : Bool) → eqb b a ≡ t → eqb a b ≡ t
    go true e = eq-eqb a b (sym (eqb-true b a e))
    go false e = ne_eqb a b (λ q. eqb-false b a e (sym q))

both_zero : (a b : ℕ) → (eqb a b && eqb a 0) ≡ not (ltb 0 (b + a))
both_zero a b = go (eqb a 0) refl (ltb 0 (b + a)) refl
  where
    go : (t : Bool) → eqb a 0 ≡ t → (u : Bool) → ltb 0 (b + a) ≡ u → (eqb a b && t) ≡ not u
    go true e true f =
        let a0 = eqb-true a 0 e in
        let l = ltb-true 0 (b + a) f in
        rw (ne_eqb a b (λ q. omega arith))
    go true e false f = let l = ltb-false 0 (b + a) f in rw (eq-eqb a b (omega arith))
    go false e true f = and-false (eqb a b)
    go false e false f = let l = ltb-false 0 (b + a) f in absurd (eqb-false a 0 e (omega arith))

le_signed : (s : Bool) (a : ℕ) (t : Bool) (b : ℕ) → (below s a t b || level s a t b) ≡ not (below t b s a)
le_signed false a false b = le_ℕ a b
le_signed false a true b = both_zero a b
le_signed true a false b = rw (both_zero a b) (go (ltb 0 (a + b)) refl (ltb 0 (b + a)) refl)
  where
    no : (a b : ℕ) → a + b ≤ 0 → 0 < b + a → ⊥
    no a b h k = omega arith

    go : (t : Bool) → ltb 0 (a + b) ≡ t → (u : Bool) → ltb 0 (b + a) ≡ u → (t || not u) ≡ true
    go true e u f = refl
    go false e true f = absurd (no a b (ltb-false 0 (a + b) e) (ltb-true 0 (b + a) f))
    go false e false f = refl
le_signed true a true b = rw (eqb_comm a b) (le_ℕ b a)

-- ---- what a comparison held of is no nan

pub lt_no_nan : (x y : Float) → lt x y ≡ true → (is_nan x ≡ false) × (is_nan y ≡ false)
unfolding lt is_nan
lt_no_nan nan y h = absurd (true≢false (sym h))
lt_no_nan (inf s) nan h = absurd (true≢false (sym h))
lt_no_nan (inf s) (inf t) h = (refl, refl)
lt_no_nan (inf s) (fin t n d) h = (refl, refl)
lt_no_nan (fin s m e) nan h = absurd (true≢false (sym h))
lt_no_nan (fin s m e) (inf t) h = (refl, refl)
lt_no_nan (fin s m e) (fin t n d) h = (refl, refl)

pub le_no_nan : (x y : Float) → le x y ≡ true → (is_nan x ≡ false) × (is_nan y ≡ false)
unfolding le is_nan
le_no_nan nan y h = absurd (true≢false (sym h))
le_no_nan (inf s) nan h = absurd (true≢false (sym h))
le_no_nan (inf s) (inf t) h = (refl, refl)
le_no_nan (inf s) (fin t n d) h = (refl, refl)
le_no_nan (fin s m e) nan h = absurd (true≢false (sym h))
le_no_nan (fin s m e) (inf t) h = (refl, refl)
le_no_nan (fin s m e) (fin t n d) h = (refl, refl)

-- ---- below

-- if x is below y, y is not below x
pub lt_asym : (x y : Float) → lt x y ≡ true → lt y x ≡ false
unfolding lt
lt_asym nan y h = absurd (true≢false (sym h))
lt_asym (inf s) nan h = absurd (true≢false (sym h))
lt_asym (inf true) (inf true) h = refl
lt_asym (inf true) (inf false) h = refl
lt_asym (inf false) (inf t) h = absurd (true≢false (sym h))
lt_asym (inf true) (fin t n d) h = refl
lt_asym (inf false) (fin t n d) h = absurd (true≢false (sym h))
lt_asym (fin s m e) nan h = absurd (true≢false (sym h))
lt_asym (fin s m e) (inf true) h = absurd (true≢false (sym h))
lt_asym (fin s m e) (inf false) h = refl
lt_asym (fin s m e) (fin t n d) h = other s (m * up e * down d) t (n * up d * down e) h

-- x is not below itself
pub lt_irrefl : (x : Float) → lt x x ≡ false
lt_irrefl x = go (lt x x) refl
  where
    go : (b : Bool) → lt x x ≡ b → lt x x ≡ false
    go true e = lt_asym x x e
    go false e = e

-- if x is not below y, and y, which is no nan, is not below z, then x is not below z
pub not_lt_trans : (x y z : Float) → is_nan y ≡ false → lt x y ≡ false → lt y z ≡ false → lt x z ≡ false
unfolding lt is_nan
not_lt_trans nan y z v h k = refl
not_lt_trans (inf s) nan z v h k = absurd (true≢false v)
not_lt_trans (inf true) (inf true) nan v h k = refl
not_lt_trans (inf true) (inf true) (inf true) v h k = refl
not_lt_trans (inf true) (inf true) (inf false) v h k = absurd (true≢false k)
not_lt_trans (inf true) (inf true) (fin u o g) v h k = absurd (true≢false k)
not_lt_trans (inf true) (inf false) z v h k = absurd (true≢false h)
not_lt_trans (inf false) (inf t) nan v h k = refl
not_lt_trans (inf false) (inf t) (inf u) v h k = refl
not_lt_trans (inf false) (inf t) (fin u o g) v h k = refl
not_lt_trans (inf true) (fin t n d) z v h k = absurd (true≢false h)
not_lt_trans (inf false) (fin t n d) nan v h k = refl
not_lt_trans (inf false) (fin t n d) (inf u) v h k = refl
not_lt_trans (inf false) (fin t n d) (fin u o g) v h k = refl
not_lt_trans (fin s m e) nan z v h k = absurd (true≢false v)
not_lt_trans (fin s m e) (inf true) nan v h k = refl
not_lt_trans (fin s m e) (inf true) (inf true) v h k = refl
not_lt_trans (fin s m e) (inf true) (inf false) v h k = absurd (true≢false k)
not_lt_trans (fin s m e) (inf true) (fin u o g) v h k = absurd (true≢false k)
not_lt_trans (fin s m e) (inf false) z v h k = absurd (true≢false h)
not_lt_trans (fin s m e) (fin t n d) nan v h k = refl
not_lt_trans (fin s m e) (fin t n d) (inf true) v h k = refl
not_lt_trans (fin s m e) (fin t n d) (inf false) v h k = absurd (true≢false k)
not_lt_trans (fin s m e) (fin t n d) (fin u o g) v h k =
    past s (m * up e) (down e) t (n * up d) (down d) u (o * up g) (down g) (down_pos e) (down_pos d) (down_pos g) h k

-- if x is below y, and z, which is no nan, is not below y, then x is below z
pub lt_not_lt_trans : (x y z : Float) → is_nan z ≡ false → lt x y ≡ true → lt z y ≡ false → lt x z ≡ true
lt_not_lt_trans x y z w h k = go (lt x z) refl
  where
    go : (b : Bool) → lt x z ≡ b → lt x z ≡ true
    go true e = e
    go false e = absurd (true≢false (sym h ∙ not_lt_trans x z y w e k))

-- if y is not below x, which is no nan, and y is below z, then x is below z
pub not_lt_lt_trans : (x y z : Float) → is_nan x ≡ false → lt y x ≡ false → lt y z ≡ true → lt x z ≡ true
not_lt_lt_trans x y z v h k = go (lt x z) refl
  where
    go : (b : Bool) → lt x z ≡ b → lt x z ≡ true
    go true e = e
    go false e = absurd (true≢false (sym k ∙ not_lt_trans y x z v h e))

pub lt_trans : (x y z : Float) → lt x y ≡ true → lt y z ≡ true → lt x z ≡ true
lt_trans x y z h k = lt_not_lt_trans x y z (lt_no_nan y z k).1 h (lt_asym y z k)

-- ---- at most

pub le_is_not_lt : (x y : Float) → is_nan x ≡ false → is_nan y ≡ false → le x y ≡ not (lt y x)
unfolding le lt is_nan
le_is_not_lt nan y v w = absurd (true≢false v)
le_is_not_lt (inf s) nan v w = absurd (true≢false w)
le_is_not_lt (inf true) (inf true) v w = refl
le_is_not_lt (inf true) (inf false) v w = refl
le_is_not_lt (inf false) (inf true) v w = refl
le_is_not_lt (inf false) (inf false) v w = refl
le_is_not_lt (inf true) (fin t n d) v w = refl
le_is_not_lt (inf false) (fin t n d) v w = refl
le_is_not_lt (fin s m e) nan v w = absurd (true≢false w)
le_is_not_lt (fin s m e) (inf true) v w = refl
le_is_not_lt (fin s m e) (inf false) v w = refl
le_is_not_lt (fin s m e) (fin t n d) v w = le_signed s (m * up e * down d) t (n * up d * down e)

-- the four ways to read that
pub le→not_lt : (x y : Float) → le x y ≡ true → lt y x ≡ false
le→not_lt x y h = let n = le_no_nan x y h in not-true _ (sym (le_is_not_lt x y n.0 n.1) ∙ h)

pub not_lt→le : (x y : Float) → is_nan x ≡ false → is_nan y ≡ false → lt y x ≡ false → le x y ≡ true
not_lt→le x y v w h = le_is_not_lt x y v w ∙ ap not h

pub not_le→lt : (x y : Float) → is_nan x ≡ false → is_nan y ≡ false → le x y ≡ false → lt y x ≡ true
not_le→lt x y v w h = not-false _ (sym (le_is_not_lt x y v w) ∙ h)

pub lt→le : (x y : Float) → lt x y ≡ true → le x y ≡ true
lt→le x y h = let n = lt_no_nan x y h in not_lt→le x y n.0 n.1 (lt_asym x y h)

pub le_refl : (x : Float) → is_nan x ≡ false → le x x ≡ true
le_refl x v = not_lt→le x x v v (lt_irrefl x)

pub le_trans : (x y z : Float) → le x y ≡ true → le y z ≡ true → le x z ≡ true
le_trans x y z h k =
    let n = le_no_nan x y h in
    let m = le_no_nan y z k in
    not_lt→le x z n.0 m.1 (not_lt_trans z y x n.1 (le→not_lt y z k) (le→not_lt x y h))

pub le_lt_trans : (x y z : Float) → le x y ≡ true → lt y z ≡ true → lt x z ≡ true
le_lt_trans x y z h k = not_lt_lt_trans x y z (le_no_nan x y h).0 (le→not_lt x y h) k

pub lt_le_trans : (x y z : Float) → lt x y ≡ true → le y z ≡ true → lt x z ≡ true
lt_le_trans x y z h k = lt_not_lt_trans x y z (le_no_nan y z k).1 h (le→not_lt y z k)
