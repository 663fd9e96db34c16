-- Values with no sign: two of a format, neither below the other, are equal as data; what is above one, at most one, or made from two of them;
-- a square, and a sum of two squares, has no sign. Assumes nothing.
use mathlib.Core.Path.{◌≡◌, refl, sym, ap, ◌∙◌}
use mathlib.Core.Bool.{Bool, true, false, cond, true≢false}
use Prim.Native.Nat.{ℕ, zero, suc, ◌+◌, ◌-◌, ◌*◌, ◌/◌, ◌^◌, ◌<◌}
use native.Mathlib.Nat.{le_antisymm, mul_right_comm, zero-mul, mul-pos}
use native.Mathlib.Omega.{arith}
use borrow.Author.Tests.{ltb-false, le-ltb, lt-ltb}
use lib.Dec.{T, ltb, eqb}
use lib.IntN.{ℤ, pos}
use lib.Ieee.{Float, nan, inf, fin, Format, prec, emax, low, hid, up, down, size, lt, le, is_nan, fits, to_bits, of_bits, add, mul, sum, round, units, odd}
use lib.Ieee.Bits.{of_bits-to_bits}
use lib.Ieee.Fits.{up_pos, down_pos, round_is}
use lib.Ieee.Nearest.{div_same}
use lib.Ieee.Scale.{finite}
use Rattle.float_order.specs.Unsigned.{plain, nonzero}
use Rattle.float_order.proofs.Order.{lt_le_trans}

pub plain_no_nan : (x : Float) → T (plain x) → is_nan x ≡ false
unfolding is_nan
plain_no_nan nan p = absurd p
plain_no_nan (inf s) p = refl
plain_no_nan (fin s m e) p = refl

-- ---- equal as data

same_bits : (f : Format) (m n : ℕ) (e d : ℤ) → m * up e * down d ≡ n * up d * down e → to_bits f (fin false m e) ≡ to_bits f (fin false n d)
unfolding to_bits
same_bits f m n e d h =
    ap (λ (v : ℕ). let k = size v - prec f in 0 + k * hid f + v / 2 ^ k)
    (div_same (m * up e * 2 ^ low f) (down e) (n * up d * 2 ^ low f) (down d) (down_pos e) (down_pos d)
    (mul_right_comm (m * up e) (2 ^ low f) (down d) ∙ ap (λ (v : ℕ). v * 2 ^ low f) h ∙ mul_right_comm (n * up d) (down e) (2 ^ low f)))

-- two values of a format with no sign, neither below the other, are the same
pub plain_unique : (f : Format) (x y : Float) → T (fits f x) → T (fits f y) → T (plain x) → T (plain y) → lt x y ≡ false → lt y x ≡ false → x ≡ y
unfolding lt
plain_unique f nan y fx fy px py h k = absurd px
plain_unique f (inf s) nan fx fy px py h k = absurd py
plain_unique f (inf true) (inf t) fx fy px py h k = absurd px
plain_unique f (inf false) (inf true) fx fy px py h k = absurd py
plain_unique f (inf false) (inf false) fx fy px py h k = refl
plain_unique f (inf true) (fin t n d) fx fy px py h k = absurd px
plain_unique f (inf false) (fin t n d) fx fy px py h k = absurd (true≢false k)
plain_unique f (fin s m e) nan fx fy px py h k = absurd py
plain_unique f (fin s m e) (inf true) fx fy px py h k = absurd py
plain_unique f (fin s m e) (inf false) fx fy px py h k = absurd (true≢false h)
plain_unique f (fin true m e) (fin t n d) fx fy px py h k = absurd px
plain_unique f (fin false m e) (fin true n d) fx fy px py h k = absurd py
plain_unique f (fin false m e) (fin false n d) fx fy px py h k =
    sym (of_bits-to_bits f (fin false m e) fx)
    ∙ ap (λ (b : ℕ). of_bits f b) (same_bits f m n e d (le_antisymm (ltb-false _ _ k) (ltb-false _ _ h)))
    ∙ of_bits-to_bits f (fin false n d) fy

-- ---- beside a value with no sign

-- what is above such a value has no sign, and is not zero
pub plain_above : (x y : Float) → T (plain x) → lt x y ≡ true → T (plain y) × T (nonzero y)
unfolding lt
plain_above nan y p h = absurd p
plain_above (inf true) y p h = absurd p
plain_above (inf false) nan p h = absurd (true≢false (sym h))
plain_above (inf false) (inf t) p h = absurd (true≢false (sym h))
plain_above (inf false) (fin t n d) p h = absurd (true≢false (sym h))
plain_above (fin true m e) y p h = absurd p
plain_above (fin false m e) nan p h = absurd (true≢false (sym h))
plain_above (fin false m e) (inf true) p h = absurd (true≢false (sym h))
plain_above (fin false m e) (inf false) p h = (tt, tt)
plain_above (fin false m e) (fin true n d) p h = absurd (true≢false (sym h))
plain_above (fin false m e) (fin false zero d) p h = absurd (true≢false (sym h ∙ nothing (m * up e * down d) (up d) (down e)))
  where
    nothing : (a b c : ℕ) → ltb a (0 * b * c) ≡ false
    nothing a b c = rw (zero-mul b, zero-mul c) (le-ltb a 0 (omega arith))
plain_above (fin false m e) (fin false (suc n) d) p h = (tt, tt)

-- zero is below a value with no sign that is not zero
pub zero_below : (x : Float) → T (plain x) → T (nonzero x) → lt (fin false 0 (pos 0)) x ≡ true
unfolding lt
zero_below nan p q = absurd p
zero_below (inf true) p q = absurd p
zero_below (inf false) p q = refl
zero_below (fin true m e) p q = absurd p
zero_below (fin false zero e) p q = absurd q
zero_below (fin false (suc m) e) p q = rw (zero-mul (down e)) (lt-ltb 0 (suc m * up e * 1) (mul-pos (mul-pos (some m) (up_pos e)) (omega arith)))
  where
    some : (m : ℕ) → 0 < suc m
    some m = omega arith

-- what is at least such a value has no sign either, and is not zero
pub plain_at_least : (x y : Float) → T (plain x) → T (nonzero x) → le x y ≡ true → T (plain y) × T (nonzero y)
plain_at_least x y p q h = plain_above (fin false 0 (pos 0)) y tt (lt_le_trans (fin false 0 (pos 0)) x y (zero_below x p q) h)

-- what has no sign and is at most a finite value is finite
pub finite_under : (x y : Float) → T (plain x) → T (finite y) → le x y ≡ true → T (finite x)
unfolding le
finite_under nan y p q h = absurd p
finite_under (inf true) y p q h = absurd p
finite_under (inf false) nan p q h = absurd q
finite_under (inf false) (inf t) p q h = absurd q
finite_under (inf false) (fin t n d) p q h = absurd (true≢false (sym h))
finite_under (fin s m e) y p q h = tt

-- no value is above the positive infinity
pub le_inf : (x : Float) → T (plain x) → le x (inf false) ≡ true
unfolding le
le_inf nan p = absurd p
le_inf (inf true) p = absurd p
le_inf (inf false) p = refl
le_inf (fin true m e) p = absurd p
le_inf (fin false m e) p = refl

-- ---- results with no sign

odd_plain : (d q k l : ℕ) → T (plain (odd d false q k l))
unfolding odd
odd_plain d zero k l = tt
odd_plain d (suc q) k l = tt

units_plain : (f : Format) (q k : ℕ) → T (plain (units f false q k))
unfolding units
units_plain f q k = go (ltb (q * 2 ^ k) (2 ^ (low f + suc (emax f))))
  where
    go : (b : Bool) → T (plain (cond b (odd (suc (prec f)) false q k (low f)) (inf false)))
    go true = odd_plain (suc (prec f)) q k (low f)
    go false = tt

pub round_plain : (f : Format) (a b : ℕ) → T (plain (round f false a b))
round_plain f a b = rw (round_is f false a b) (units_plain f _ _)

pub add_plain : (f : Format) (x y : Float) → T (plain x) → T (plain y) → T (plain (add f x y))
unfolding add sum
add_plain f nan y p q = absurd p
add_plain f (inf true) y p q = absurd p
add_plain f (inf false) nan p q = absurd q
add_plain f (inf false) (inf true) p q = absurd q
add_plain f (inf false) (inf false) p q = tt
add_plain f (inf false) (fin t n d) p q = tt
add_plain f (fin s m e) nan p q = absurd q
add_plain f (fin s m e) (inf true) p q = absurd q
add_plain f (fin s m e) (inf false) p q = tt
add_plain f (fin true m e) (fin t n d) p q = absurd p
add_plain f (fin false m e) (fin true n d) p q = absurd q
add_plain f (fin false m e) (fin false n d) p q = round_plain f _ _

-- a product is nan only at zero times infinity
pub mul_plain : (f : Format) (x y : Float) → T (plain x) → T (plain y) → is_nan (mul f x y) ≡ false → T (plain (mul f x y))
unfolding mul is_nan
mul_plain f nan y p q h = absurd p
mul_plain f (inf true) y p q h = absurd p
mul_plain f (inf false) nan p q h = absurd q
mul_plain f (inf false) (inf true) p q h = absurd q
mul_plain f (inf false) (inf false) p q h = tt
mul_plain f (inf false) (fin true n d) p q h = absurd q
mul_plain f (inf false) (fin false n d) p q h = go (eqb n 0) h
  where
    go : (b : Bool) → is_nan (cond b nan (inf false)) ≡ false → T (plain (cond b nan (inf false)))
    go true h = absurd (true≢false h)
    go false h = tt
mul_plain f (fin s m e) nan p q h = absurd q
mul_plain f (fin true m e) (inf t) p q h = absurd p
mul_plain f (fin false m e) (inf true) p q h = absurd q
mul_plain f (fin false m e) (inf false) p q h = go (eqb m 0) h
  where
    go : (b : Bool) → is_nan (cond b nan (inf false)) ≡ false → T (plain (cond b nan (inf false)))
    go true h = absurd (true≢false h)
    go false h = tt
mul_plain f (fin true m e) (fin t n d) p q h = absurd p
mul_plain f (fin false m e) (fin true n d) p q h = absurd q
mul_plain f (fin false m e) (fin false n d) p q h = round_plain f _ _

-- the product of two finite values with no sign has none
pub mul_plain_finite : (f : Format) (x y : Float) → T (plain x) → T (finite x) → T (plain y) → T (finite y) → T (plain (mul f x y))
unfolding mul
mul_plain_finite f nan y p u q v = absurd p
mul_plain_finite f (inf s) y p u q v = absurd u
mul_plain_finite f (fin s m e) nan p u q v = absurd q
mul_plain_finite f (fin s m e) (inf t) p u q v = absurd v
mul_plain_finite f (fin true m e) (fin t n d) p u q v = absurd p
mul_plain_finite f (fin false m e) (fin true n d) p u q v = absurd q
mul_plain_finite f (fin false m e) (fin false n d) p u q v = round_plain f _ _

-- ---- squares

-- a square that is no nan has no sign
pub square_plain : (f : Format) (x : Float) → is_nan (mul f x x) ≡ false → T (plain (mul f x x))
unfolding mul is_nan
square_plain f nan h = absurd (true≢false h)
square_plain f (inf true) h = tt
square_plain f (inf false) h = tt
square_plain f (fin true m e) h = round_plain f _ _
square_plain f (fin false m e) h = round_plain f _ _

-- a sum that is no nan is of two that are none
pub add_parts : (f : Format) (x y : Float) → is_nan (add f x y) ≡ false → (is_nan x ≡ false) × (is_nan y ≡ false)
unfolding add is_nan
add_parts f nan y h = absurd (true≢false h)
add_parts f (inf s) nan h = absurd (true≢false h)
add_parts f (inf s) (inf t) h = (refl, refl)
add_parts f (inf s) (fin t n d) h = (refl, refl)
add_parts f (fin s m e) nan h = absurd (true≢false h)
add_parts f (fin s m e) (inf t) h = (refl, refl)
add_parts f (fin s m e) (fin t n d) h = (refl, refl)

-- a sum of two squares that is no nan has no sign
pub squares_plain : (f : Format) (x y : Float) → is_nan (add f (mul f x x) (mul f y y)) ≡ false → T (plain (add f (mul f x x) (mul f y y)))
squares_plain f x y h =
    let p = add_parts f (mul f x x) (mul f y y) h in
    add_plain f (mul f x x) (mul f y y) (square_plain f x p.0) (square_plain f y p.1)
