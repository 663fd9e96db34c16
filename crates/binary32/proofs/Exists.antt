-- Every positive finite pattern has a root, and `rooted` answers it: with `Unique` and `Rooting`, the relation and the function are the same.
-- The root of an unsigned finite value is an unsigned finite value. Assumes nothing.
use Prim.Native.Nat.{ℕ, zero, suc, ◌+◌, ◌-◌, ◌*◌, ◌/◌, ◌%◌, ◌^◌, ◌≤◌, ◌<◌}
use mathlib.Core.Path.{◌≡◌, refl, sym, ap, subst, ◌∙◌}
use mathlib.Core.Logic.{◌⊎◌, inl, inr}
use mathlib.Core.Bool.{Bool, true, false, not}
use native.Mathlib.Nat.{mul-le-mul, lt_of_not-le}
use native.Mathlib.Decide.{dec_le, ℕ_discrete}
use native.Mathlib.Numerals.{add-one}
use native.Mathlib.Omega.{arith}
use borrow.Author.Tests.{le-leb, lt-leb}
use lib.Dec.{T, leb, lit≤}
use lib.Count.{count_leading_zeros}
use lib.IntN.{ℤ, pos}
use lib.Ieee.{Float, nan, inf, fin, binary32, fits, of_bits, to_bits}
use lib.Ieee.Bits.{of_bits-to_bits, of_bits-fits}
use lib.Ieee.Exact.{HasValue}
use lib.Ieee.Fits.{nan-fits}
use Rattle.binary32.specs.Sqrt.{units_of, square, RootOf, Answers, climb, rooted, sqrt_or_nan}
use Rattle.binary32.specs.Steps.{WholeRoot, Near, Normalized}
use Rattle.binary32.proofs.Squares.{square_lt, rounded_down, rounded_up}
use Rattle.binary32.proofs.Normalize.{normal, lifted, subnormal}
use Rattle.binary32.proofs.Assemble.{root, even, odd}
use Rattle.binary32.proofs.Patterns.{value, beyond}
use Rattle.binary32.proofs.Rooting.{climbs}

-- ---- whole roots

-- every number has a whole root
whole : (n : ℕ) → (s : ℕ) × (square s ≤ n) × (n < square (s + 1))
whole zero = (0, omega arith, omega arith)
whole (suc n) = go (whole n)
  where
    go : ((s : ℕ) × (square s ≤ n) × (n < square (s + 1))) → (s : ℕ) × (square s ≤ suc n) × (suc n < square (s + 1))
    go w = by (dec_le (square (w.0 + 1)) (suc n))
      where
        by : Dec (square (w.0 + 1) ≤ suc n) → (s : ℕ) × (square s ≤ suc n) × (suc n < square (s + 1))
        by (yes k) = (w.0 + 1, k, omega (arith, square_lt (w.0 + 1) (w.0 + 1 + 1) (omega arith), w.2))
        by (no f) = (w.0, omega (arith, w.1), lt_of_not-le f)

module _ (n : ℕ) (l : 2 ^ 46 ≤ n) (h : n ≤ 2 ^ 48 - 2 ^ 24) where
  whole_root : (s : ℕ) × WholeRoot n s
  whole_root =
      let w = whole n in
      (w.0, record { from = w.1; to = w.2; low = least w.0 w.2; high = most w.0 w.1 })
    where
      least : (s : ℕ) → n < square (s + 1) → 2 ^ 23 ≤ s
      least s k = not_less (λ (g : s < 2 ^ 23). no s k (mul-le-mul g g))
        where
          no : (s : ℕ) → n < square (s + 1) → suc s * suc s ≤ 2 ^ 23 * 2 ^ 23 → ⊥
          no s k g = omega (arith, subst (λ (x : ℕ). x * x ≤ 2 ^ 23 * 2 ^ 23) (sym (add-one s)) g)

          not_less : (s < 2 ^ 23 → ⊥) → 2 ^ 23 ≤ s
          not_less f = omega (arith, lt_of_not-le f)

      most : (s : ℕ) → square s ≤ n → s < 2 ^ 24
      most s k = lt_of_not-le (λ (g : 2 ^ 24 ≤ s). no (square s) k (mul-le-mul g g))
        where
          no : (q : ℕ) → q ≤ n → 2 ^ 24 * 2 ^ 24 ≤ q → ⊥
          no q k g = omega arith

  near : (q : ℕ) × Near n q
  near = go (dec_le (n - square whole_root.0) whole_root.0)
    where
      go : Dec (n - square whole_root.0 ≤ whole_root.0) → (q : ℕ) × Near n q
      go (yes k) = (whole_root.0, rounded_down n whole_root.0 whole_root.1 k)
      go (no f) = (whole_root.0 + 1, rounded_up n whole_root.0 whole_root.1 (lt_of_not-le f) h)

-- ---- roots of patterns

normalized : (b : ℕ) → 0 < b → b < 0x7f80_0000 → (m e : ℕ) × Normalized b m e
normalized b p h = go (dec_le 0x80_0000 b)
  where
    go : Dec (0x80_0000 ≤ b) → (m e : ℕ) × Normalized b m e
    go (yes l) = (0x80_0000 + b % 0x80_0000, b / 0x80_0000 + 148, normal b l h)
    go (no f) =
        let z = count_leading_zeros 32 (b % 0x80_0000) in
        (b % 0x80_0000 * 2 ^ (z - 8) % 2 ^ 32, 149 - (z - 8), subnormal b z (omega arith) (lifted (b % 0x80_0000) (omega arith) (omega arith)))

pub root_exists : (b : ℕ) → 0 < b → b < 0x7f80_0000 → (r : ℕ) × RootOf b r
root_exists b p h = go (normalized b p h)
  where
    go : ((m e : ℕ) × Normalized b m e) → (r : ℕ) × RootOf b r
    go w = by (ℕ_discrete (w.1 % 2) 0)
      where
        by : Dec (w.1 % 2 ≡ 0) → (r : ℕ) × RootOf b r
        by (yes k) =
            let q = near (w.0 * 2 ^ 24) (omega (arith, w.2.low)) (omega (arith, w.2.high)) in
            ((w.1 - 23) / 2 * 0x80_0000 + q.0, root b w.0 w.1 24 ((w.1 - 23) / 2) q.0 w.2 (even w.1 w.2.least k) (lit≤ tt) (lit≤ tt) (omega (arith, w.2.low)) q.1)
        by (no f) =
            let q = near (w.0 * 2 ^ 23) (omega (arith, w.2.low)) (omega (arith, w.2.high)) in
            ((w.1 - 23) / 2 * 0x80_0000 + q.0, root b w.0 w.1 23 ((w.1 - 23) / 2) q.0 w.2 (odd w.1 w.2.least f) (lit≤ tt) (lit≤ tt) (omega (arith, w.2.low)) q.1)

-- ---- positive finite floats and their patterns

no_zero : (m : ℕ) (e d : ℤ) → fin false (suc m) e ≡ fin false 0 d → ⊥
no_zero m e d h = let z : suc m ≡ 0 = cc in omega arith

no_inf : (s t : Bool) (m : ℕ) (e : ℤ) → (fin s m e ≡ inf t) ⊎ (fin s m e ≡ nan) → ⊥
no_inf s t m e (inl h) = let z : ◌≡◌ {A = ℕ} 0 1 = cc in omega arith
no_inf s t m e (inr h) = let z : ◌≡◌ {A = ℕ} 0 1 = cc in omega arith

-- a pattern of a finite float, without its sign, is below the infinity's
pub finite_pattern : (b : ℕ) (s : Bool) (m : ℕ) (e : ℤ) → of_bits binary32 b ≡ fin s m e → b % 0x8000_0000 < 0x7f80_0000
finite_pattern b s m e h = lt_of_not-le (λ (g : 0x7f80_0000 ≤ b % 0x8000_0000). no_inf s (leb 0x8000_0000 b) m e (subst (λ (v : Float). (v ≡ inf (leb 0x8000_0000 b)) ⊎ (v ≡ nan)) h (beyond b g)))

-- an unsigned finite float's pattern has no sign
pub unsigned_pattern : (b m : ℕ) (e : ℤ) → of_bits binary32 b ≡ fin false m e → b < 0x8000_0000
unsigned_pattern b m e h = lt_of_not-le (λ (g : 0x8000_0000 ≤ b). untrue (subst (λ (t : Bool). false ≡ t) (le-leb 0x8000_0000 b g) signed.0))
  where
    signed : HasValue (fin false m e) (leb 0x8000_0000 b) (units_of (b % 0x8000_0000)) (2 ^ 149)
    signed = subst (λ (v : Float). HasValue v (leb 0x8000_0000 b) (units_of (b % 0x8000_0000)) (2 ^ 149)) h (value b (finite_pattern b false m e h))

    untrue : false ≡ true → ⊥
    untrue e = subst (λ (t : Bool). T (not t)) e tt

pub positive_pattern : (m : ℕ) (e : ℤ) → T (fits binary32 (fin false (suc m) e)) → (0 < to_bits binary32 (fin false (suc m) e)) × (to_bits binary32 (fin false (suc m) e) < 0x7f80_0000)
unfolding of_bits
positive_pattern m e f =
    let b = to_bits binary32 (fin false (suc m) e) in
    let back = of_bits-to_bits binary32 (fin false (suc m) e) f in
    let low = unsigned_pattern b (suc m) e back in
    let small = finite_pattern b false (suc m) e back in
    (go (ℕ_discrete b 0) back, omega arith)
  where
    go : {b : ℕ} → Dec (b ≡ 0) → of_bits binary32 b ≡ fin false (suc m) e → 0 < b
    go (yes z) back = absurd (no_zero m e (pos 0) (sym back ∙ ap (of_bits binary32) z))
    go (no z) back = omega arith

-- the root of a positive finite pattern is what `climb` finds
pub climbed : (b : ℕ) → 0 < b → b < 0x7f80_0000 → RootOf b (climb b 31 0)
climbed b p h = go (root_exists b p h)
  where
    below : (r : ℕ) → r < 0x7f80_0000 → r < 0 + 2 ^ 31
    below r h = omega arith

    go : ((r : ℕ) × RootOf b r) → RootOf b (climb b 31 0)
    go r = subst (RootOf b) (sym (climbs b r.0 r.1 31 0 (omega arith) (below r.0 r.1.finite))) r.1

-- the function answers what the relation asks, at every binary32 value
pub answered : (x : Float) → T (fits binary32 x) → Answers x (rooted x)
unfolding Answers rooted
answered nan f = refl
answered (inf s) f = refl
answered (fin s zero e) f = refl
answered (fin true (suc m) e) f = refl
answered (fin false (suc m) e) f =
    let b = to_bits binary32 (fin false (suc m) e) in
    let p = positive_pattern m e f in
    (climb b 31 0, refl, climbed b p.0 p.1)

-- ---- the root of an unsigned finite value is one too

-- what a pattern below the infinity's stands for
pub unsigned_of : (r : ℕ) → r < 0x7f80_0000 → (m : ℕ) × (e : ℤ) × (of_bits binary32 r ≡ fin false m e)
unsigned_of r h = go (of_bits binary32 r) (value r (omega arith))
  where
    go : (v : Float) → HasValue v (leb 0x8000_0000 r) (units_of (r % 0x8000_0000)) (2 ^ 149) → (m : ℕ) × (e : ℤ) × (v ≡ fin false m e)
    go nan v = absurd v
    go (inf s) v = absurd v
    go (fin s m e) v = (m, e, ap (λ (t : Bool). fin t m e) (v.0 ∙ lt-leb 0x8000_0000 r (omega arith)))

pub sqrt_unsigned : (m : ℕ) (e : ℤ) → T (fits binary32 (fin false m e)) → (n : ℕ) × (d : ℤ) × (sqrt_or_nan (fin false m e) ≡ fin false n d)
unfolding rooted
sqrt_unsigned zero e f = (zero, e, refl)
sqrt_unsigned (suc m) e f =
    let b = to_bits binary32 (fin false (suc m) e) in
    let p = positive_pattern m e f in
    unsigned_of (climb b 31 0) (climbed b p.0 p.1).finite

pub sqrt_fits : (x : Float) → T (fits binary32 x) → T (fits binary32 (sqrt_or_nan x))
unfolding rooted
sqrt_fits nan f = nan-fits binary32
sqrt_fits (inf s) f = nan-fits binary32
sqrt_fits (fin s zero e) f = f
sqrt_fits (fin true (suc m) e) f = nan-fits binary32
sqrt_fits (fin false (suc m) e) f = of_bits-fits binary32 (climb (to_bits binary32 (fin false (suc m) e)) 31 0)
