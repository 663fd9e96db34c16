-- The root keeps the order: where y is not below x, its root is not below x's. What has no root has a nan in its place, which is not
-- below anything, so this is said of all values of the format. Assumes nothing.
use Prim.Native.Nat.{ℕ, zero, suc, ◌+◌, ◌*◌, ◌%◌, ◌^◌, ◌≤◌, ◌<◌}
use mathlib.Core.Path.{◌≡◌, refl, sym, subst, ◌∙◌}
use mathlib.Core.Bool.{Bool, true, false, true≢false}
use native.Mathlib.Nat.{mul-pos, mul-le-mul_right, le_of_mul-le-mul_right, zero-mul}
use native.Mathlib.Omega.{arith}
use borrow.Author.Tests.{lt-ltb, le-ltb, ltb-false, lt-leb}
use lib.Dec.{T}
use lib.IntN.{ℤ}
use lib.Pow.{pow_pos}
use lib.Ieee.{Float, nan, inf, fin, binary32, up, down, below, lt, fits, of_bits, to_bits}
use lib.Ieee.Bits.{of_bits-to_bits}
use lib.Ieee.Exact.{HasValue}
use lib.Ieee.Fits.{up_pos, down_pos}
use lib.Ieee.Order.{transfer}
use Rattle.binary32.specs.Sqrt.{units_of, climb, rooted, sqrt_or_nan}
use Rattle.binary32.proofs.Patterns.{value}
use Rattle.binary32.proofs.Unique.{mono, in_order}
use Rattle.binary32.proofs.Exists.{positive_pattern, climbed, sqrt_unsigned}

-- ---- the order of two unsigned values is that of their numbers

not_below : (x y : Float) (a b c : ℕ) → 0 < c → HasValue x false a c → HasValue y false b c → a ≤ b → lt y x ≡ false
unfolding lt
not_below nan y a b c C v w h = absurd v
not_below (inf s) y a b c C v w h = absurd v
not_below (fin s m e) nan a b c C v w h = absurd w
not_below (fin s m e) (inf t) a b c C v w h = absurd w
not_below (fin true m e) (fin t n d) a b c C v w h = absurd (true≢false v.0)
not_below (fin false m e) (fin true n d) a b c C v w h = absurd (true≢false w.0)
not_below (fin false m e) (fin false n d) a b c C v w h =
    le-ltb (n * up d * down e) (m * up e * down d) (transfer (m * up e) (n * up d) (down e) (down d) a b c c C C v.1 w.1 (mul-le-mul_right c h))

-- the other way round
numbers : (m : ℕ) (e : ℤ) (n : ℕ) (d : ℤ) (a b c : ℕ) → 0 < c → m * up e * c ≡ a * down e → n * up d * c ≡ b * down d
    → lt (fin false n d) (fin false m e) ≡ false → a ≤ b
unfolding lt
numbers m e n d a b c C v w h =
    le_of_mul-le-mul_right
    (transfer a b c c (m * up e) (n * up d) (down e) (down d) (down_pos e) (down_pos d) (sym v) (sym w) (ltb-false (n * up d * down e) (m * up e * down d) h))
    C

-- a pattern below the infinity's, as an unsigned value
number : (b : ℕ) → b < 0x7f80_0000 → HasValue (of_bits binary32 b) false (units_of b) (2 ^ 149)
number b h =
    subst (λ (k : ℕ). HasValue (of_bits binary32 b) false (units_of k) (2 ^ 149)) same
    (subst (λ (s : Bool). HasValue (of_bits binary32 b) s (units_of (b % 0x8000_0000)) (2 ^ 149)) (lt-leb 0x8000_0000 b (omega arith)) (value b (omega arith)))
  where
    same : b % 0x8000_0000 ≡ b
    same = omega arith

-- ---- two positive finite values

positive : (m : ℕ) (e : ℤ) (n : ℕ) (d : ℤ) → T (fits binary32 (fin false (suc m) e)) → T (fits binary32 (fin false (suc n) d))
    → lt (fin false (suc n) d) (fin false (suc m) e) ≡ false
    → lt (of_bits binary32 (climb (to_bits binary32 (fin false (suc n) d)) 31 0)) (of_bits binary32 (climb (to_bits binary32 (fin false (suc m) e)) 31 0)) ≡ false
positive m e n d f g h =
    let b = to_bits binary32 (fin false (suc m) e) in
    let c = to_bits binary32 (fin false (suc n) d) in
    let p = positive_pattern m e f in
    let q = positive_pattern n d g in
    let v = subst (λ (x : Float). HasValue x false (units_of b) (2 ^ 149)) (of_bits-to_bits binary32 (fin false (suc m) e) f) (number b p.1) in
    let w = subst (λ (x : Float). HasValue x false (units_of c) (2 ^ 149)) (of_bits-to_bits binary32 (fin false (suc n) d) g) (number c q.1) in
    let r = climbed b p.0 p.1 in
    let s = climbed c q.0 q.1 in
    not_below (of_bits binary32 (climb b 31 0)) (of_bits binary32 (climb c 31 0)) (units_of (climb b 31 0)) (units_of (climb c 31 0)) (2 ^ 149) (pow_pos 149)
    (number (climb b 31 0) r.finite) (number (climb c 31 0) s.finite)
    (mono (climb b 31 0) (climb c 31 0)
    (in_order b c (climb b 31 0) (climb c 31 0) (numbers (suc m) e (suc n) d (units_of b) (units_of c) (2 ^ 149) (pow_pos 149) v.1 w.1 h) r s))

-- ---- the zeros

none : (a b : ℕ) → 0 * a * b ≡ 0
none a b = rw (zero-mul a, zero-mul b)

-- nothing unsigned, and neither zero, is below a zero
unsigned_zero : (n : ℕ) (d : ℤ) (s : Bool) (e : ℤ) → lt (fin false n d) (fin s 0 e) ≡ false
unfolding lt
unsigned_zero n d true e = refl
unsigned_zero n d false e = rw (none (up e) (down d)) (le-ltb (n * up d * down e) 0 (omega arith))

zero_zero : (t : Bool) (d : ℤ) (s : Bool) (e : ℤ) → lt (fin t 0 d) (fin s 0 e) ≡ false
unfolding lt
zero_zero false d s e = unsigned_zero 0 d s e
zero_zero true d true e = rw (none (up d) (down e), none (up e) (down d))
zero_zero true d false e = rw (none (up d) (down e), none (up e) (down d))

-- a zero is below what is positive
zero_positive : (t : Bool) (d : ℤ) (m : ℕ) (e : ℤ) → lt (fin t 0 d) (fin false (suc m) e) ≡ true
unfolding lt
zero_positive t d m e = go t (suc m * up e * down d) (mul-pos (mul-pos (omega arith) (up_pos e)) (down_pos d))
  where
    go : (t : Bool) (k : ℕ) → 0 < k → below t (0 * up d * down e) false k ≡ true
    go true k h = rw (none (up d) (down e)) (lt-ltb 0 (0 + k) (omega arith))
    go false k h = rw (none (up d) (down e)) (lt-ltb 0 k h)

-- ---- all values

below_nan : (x : Float) → lt x nan ≡ false
unfolding lt
below_nan nan = refl
below_nan (inf s) = refl
below_nan (fin s m e) = refl

nan_below : (x : Float) → lt nan x ≡ false
unfolding lt
nan_below x = refl

-- where y is not below x, the root of y is not below the root of x
pub sqrt_mono : (x y : Float) → T (fits binary32 x) → T (fits binary32 y) → lt y x ≡ false → lt (sqrt_or_nan y) (sqrt_or_nan x) ≡ false
unfolding rooted
sqrt_mono nan y f g h = below_nan (sqrt_or_nan y)
sqrt_mono (inf s) y f g h = below_nan (sqrt_or_nan y)
sqrt_mono (fin true (suc m) e) y f g h = below_nan (sqrt_or_nan y)
sqrt_mono (fin s zero e) nan f g h = nan_below (fin s zero e)
sqrt_mono (fin s zero e) (inf t) f g h = nan_below (fin s zero e)
sqrt_mono (fin s zero e) (fin t zero d) f g h = zero_zero t d s e
sqrt_mono (fin s zero e) (fin true (suc n) d) f g h = nan_below (fin s zero e)
sqrt_mono (fin s zero e) (fin false (suc n) d) f g h =
    let r = sqrt_unsigned (suc n) d g in
    subst (λ (v : Float). lt v (fin s zero e) ≡ false) (sym r.2) (unsigned_zero r.0 r.1 s e)
sqrt_mono (fin false (suc m) e) nan f g h = nan_below (sqrt_or_nan (fin false (suc m) e))
sqrt_mono (fin false (suc m) e) (inf t) f g h = nan_below (sqrt_or_nan (fin false (suc m) e))
sqrt_mono (fin false (suc m) e) (fin t zero d) f g h = absurd (true≢false (sym (zero_positive t d m e) ∙ h))
sqrt_mono (fin false (suc m) e) (fin true (suc n) d) f g h = nan_below (sqrt_or_nan (fin false (suc m) e))
sqrt_mono (fin false (suc m) e) (fin false (suc n) d) f g h = positive m e n d f g h
