-- Values without their sign: a range from -a to a is a bound on the magnitude, and a product's magnitude is the product of the magnitudes.
-- Assumes nothing.
use mathlib.Core.Path.{◌≡◌, refl, sym}
use mathlib.Core.Bool.{Bool, true, false, cond, true≢false}
use Prim.Native.Nat.{ℕ, zero, suc, ◌+◌, ◌*◌, ◌^◌}
use lib.Dec.{T, ltb, eqb}
use lib.IntN.{pos}
use lib.Ieee.{Float, nan, inf, fin, Format, prec, emax, low, unlike, neg, lt, le, is_nan, mul, round, units, odd}
use lib.Ieee.Fits.{round_is}
use lib.Ieee.Scale.{finite}
use Rattle.float_order.specs.Unsigned.{plain, unsigned}
use Rattle.float_order.proofs.Order.{le→not_lt, not_lt→le, le_trans}
use Rattle.float_order.proofs.Unsigned.{finite_under}
use Rattle.float_order.proofs.Monotone.{mul_mono_finite}

-- a magnitude that is at most something has no sign
pub bounded_plain : (x a : Float) → le (unsigned x) a ≡ true → T (plain (unsigned x))
unfolding le
bounded_plain nan a h = absurd (true≢false (sym h))
bounded_plain (inf s) a h = tt
bounded_plain (fin s m e) a h = tt

pub finite_magnitude : (x : Float) → T (finite (unsigned x)) → T (finite x)
finite_magnitude nan p = absurd p
finite_magnitude (inf s) p = absurd p
finite_magnitude (fin s m e) p = tt

-- if -a ≤ x ≤ a, x's magnitude is at most a
pub magnitude_within : (x a : Float) → T (plain a) → le (neg a) x ≡ true → le x a ≡ true → le (unsigned x) a ≡ true
unfolding neg
magnitude_within nan a p h k = k
magnitude_within (inf false) a p h k = k
magnitude_within (inf true) nan p h k = absurd p
magnitude_within (inf true) (inf true) p h k = absurd p
magnitude_within (inf true) (inf false) p h k = unfold le in refl
magnitude_within (inf true) (fin true n d) p h k = absurd p
magnitude_within (inf true) (fin false n d) p h k = absurd (true≢false (sym (unfold le in h)))
magnitude_within (fin false m e) a p h k = k
magnitude_within (fin true m e) nan p h k = absurd p
magnitude_within (fin true m e) (inf true) p h k = absurd p
magnitude_within (fin true m e) (inf false) p h k = unfold le in refl
magnitude_within (fin true m e) (fin true n d) p h k = absurd p
magnitude_within (fin true m e) (fin false n d) p h k =
    not_lt→le (fin false m e) (fin false n d) (unfold is_nan in refl) (unfold is_nan in refl)
    (unfold lt in le→not_lt (fin true n d) (fin true m e) h)

-- if 0 ≤ x ≤ a by value, where -0 is 0, x's magnitude is at most a
pub magnitude_from_zero : (x a : Float) → T (plain a) → le (fin false 0 (pos 0)) x ≡ true → le x a ≡ true → le (unsigned x) a ≡ true
magnitude_from_zero x a p h k = magnitude_within x a p (le_trans (neg a) (fin false 0 (pos 0)) x (under a p) h) k
  where
    under : (a : Float) → T (plain a) → le (neg a) (fin false 0 (pos 0)) ≡ true
    under nan p = absurd p
    under (inf true) p = absurd p
    under (inf false) p = unfold neg le in refl
    under (fin true m e) p = absurd p
    under (fin false m e) p = unfold neg in not_lt→le (fin true m e) (fin false 0 (pos 0)) (unfold is_nan in refl) (unfold is_nan in refl) (unfold lt in refl)

-- ---- products

odd_magnitude : (d : ℕ) (s : Bool) (q k l : ℕ) → unsigned (odd d s q k l) ≡ odd d false q k l
unfolding odd
odd_magnitude d s zero k l = refl
odd_magnitude d s (suc q) k l = refl

units_magnitude : (f : Format) (s : Bool) (q k : ℕ) → unsigned (units f s q k) ≡ units f false q k
unfolding units
units_magnitude f s q k = go (ltb (q * 2 ^ k) (2 ^ (low f + suc (emax f))))
  where
    go : (b : Bool) → unsigned (cond b (odd (suc (prec f)) s q k (low f)) (inf s)) ≡ cond b (odd (suc (prec f)) false q k (low f)) (inf false)
    go true = odd_magnitude (suc (prec f)) s q k (low f)
    go false = refl

round_magnitude : (f : Format) (s : Bool) (a b : ℕ) → unsigned (round f s a b) ≡ round f false a b
round_magnitude f s a b = rw (round_is f s a b, round_is f false a b) (units_magnitude f s _ _)

pub mul_magnitude : (f : Format) (x y : Float) → unsigned (mul f x y) ≡ mul f (unsigned x) (unsigned y)
unfolding mul
mul_magnitude f nan y = refl
mul_magnitude f (inf s) nan = refl
mul_magnitude f (inf s) (inf t) = refl
mul_magnitude f (inf s) (fin t n d) = go (eqb n 0) (unlike s t)
  where
    go : (b u : Bool) → unsigned (cond b nan (inf u)) ≡ cond b nan (inf false)
    go true u = refl
    go false u = refl
mul_magnitude f (fin s m e) nan = refl
mul_magnitude f (fin s m e) (inf t) = go (eqb m 0) (unlike s t)
  where
    go : (b u : Bool) → unsigned (cond b nan (inf u)) ≡ cond b nan (inf false)
    go true u = refl
    go false u = refl
mul_magnitude f (fin s m e) (fin t n d) = round_magnitude f (unlike s t) _ _

-- |x| ≤ a and |y| ≤ b give |x · y| ≤ a · b, for a and b finite
pub mul_within : (f : Format) (x y a b : Float) → T (plain a) → T (plain b) → T (finite a) → T (finite b) → le (unsigned x) a ≡ true → le (unsigned y) b ≡ true → le (unsigned (mul f x y)) (mul f a b) ≡ true
mul_within f x y a b p q u v h k =
    rw (mul_magnitude f x y)
    (mul_mono_finite f (unsigned x) (unsigned y) a b (bounded_plain x a h) (bounded_plain y b k) p q u v h k)

-- so a product is finite if a · b is
pub mul_bounded : (f : Format) (x y a b : Float) → T (plain a) → T (plain b) → T (finite a) → T (finite b) → T (finite (mul f a b)) → le (unsigned x) a ≡ true → le (unsigned y) b ≡ true → T (finite (mul f x y))
mul_bounded f x y a b p q u v w h k =
    let l = mul_within f x y a b p q u v h k in
    finite_magnitude (mul f x y) (finite_under (unsigned (mul f x y)) (mul f a b) (bounded_plain (mul f x y) (mul f a b) l) w l)
