-- Sums and products of values with no sign keep the order. Assumes nothing.
use mathlib.Core.Path.{◌≡◌, refl}
use mathlib.Core.Bool.{Bool, true, false, cond, true≢false}
use Prim.Native.Nat.{ℕ, ◌*◌, ◌≤◌}
use native.Mathlib.Nat.{mul-pos, mul-le-mul_right, mul-le-mul_left}
use native.Mathlib.Omega.{arith}
use borrow.Author.Tests.{ltb-false}
use lib.Dec.{T, eqb}
use lib.IntN.{ℤ}
use lib.Ieee.{Float, nan, inf, fin, Format, up, down, lt, le, is_nan, mul}
use lib.Ieee.Bits.{is_true}
use lib.Ieee.Fits.{down_pos}
use lib.Ieee.Order.{round_mono}
use lib.Ieee.Scale.{finite}
use Rattle.float_order.specs.Unsigned.{plain}
use Rattle.float_order.proofs.Order.{le→not_lt}
use Rattle.float_order.proofs.Unsigned.{plain_no_nan, le_inf, mul_plain, mul_plain_finite, finite_under}

-- the order of two that are finite, by their fractions
cross : (m : ℕ) (e : ℤ) (n : ℕ) (d : ℤ) → le (fin false m e) (fin false n d) ≡ true → m * up e * down d ≤ n * up d * down e
cross m e n d h = ltb-false (n * up d * down e) (m * up e * down d) (unfold lt in le→not_lt (fin false m e) (fin false n d) h)

products : (a e b d c g k h : ℕ) → a * g ≤ c * e → b * h ≤ k * d → a * b * (g * h) ≤ c * k * (e * d)
products a e b d c g k h x y = omega (arith, mul-le-mul_right (b * h) x, mul-le-mul_left (c * e) y)

mul_fractions : (f : Format) (m : ℕ) (e : ℤ) (n : ℕ) (d : ℤ) (m' : ℕ) (e' : ℤ) (n' : ℕ) (d' : ℤ)
    → le (fin false m e) (fin false m' e') ≡ true → le (fin false n d) (fin false n' d') ≡ true
    → le (mul f (fin false m e) (fin false n d)) (mul f (fin false m' e') (fin false n' d')) ≡ true
unfolding mul
mul_fractions f m e n d m' e' n' d' x y =
    is_true _
    (round_mono f (m * up e * (n * up d)) (down e * down d) (m' * up e' * (n' * up d')) (down e' * down d')
    (mul-pos (down_pos e) (down_pos d)) (mul-pos (down_pos e') (down_pos d'))
    (products (m * up e) (down e) (n * up d) (down d) (m' * up e') (down e') (n' * up d') (down d') (cross m e m' e' x) (cross n d n' d' y)))

-- below a finite value with no sign stands `fin false`
by_fin : (P : Float → Type 0) (x y : Float) → T (plain x) → T (finite y) → le x y ≡ true → ((m : ℕ) (e : ℤ) → x ≡ fin false m e → P (fin false m e)) → P x
by_fin P nan y p q l h = absurd p
by_fin P (inf s) y p q l h = absurd (finite_under (inf s) y p q l)
by_fin P (fin true m e) y p q l h = absurd p
by_fin P (fin false m e) y p q l h = h m e refl

top : (z : Float) → T (plain z) → (b : Bool) → is_nan (cond b nan (inf false)) ≡ false → le z (cond b nan (inf false)) ≡ true
unfolding is_nan
top z p true h = absurd (true≢false h)
top z p false h = le_inf z p

-- x ≤ x' and y ≤ y' give x · y ≤ x' · y', if neither product is zero times infinity
pub mul_mono : (f : Format) (x y x' y' : Float) → T (plain x) → T (plain y) → T (plain x') → T (plain y') → is_nan (mul f x y) ≡ false → is_nan (mul f x' y') ≡ false → le x x' ≡ true → le y y' ≡ true → le (mul f x y) (mul f x' y') ≡ true
unfolding mul
mul_mono f x y nan y' p q p' q' v w h k = absurd p'
mul_mono f x y (inf true) y' p q p' q' v w h k = absurd p'
mul_mono f x y (inf false) nan p q p' q' v w h k = absurd q'
mul_mono f x y (inf false) (inf true) p q p' q' v w h k = absurd q'
mul_mono f x y (inf false) (inf false) p q p' q' v w h k = le_inf (mul f x y) (mul_plain f x y p q v)
mul_mono f x y (inf false) (fin true n d) p q p' q' v w h k = absurd q'
mul_mono f x y (inf false) (fin false n d) p q p' q' v w h k = top (mul f x y) (mul_plain f x y p q v) (eqb n 0) w
mul_mono f x y (fin s m e) nan p q p' q' v w h k = absurd q'
mul_mono f x y (fin s m e) (inf true) p q p' q' v w h k = absurd q'
mul_mono f x y (fin true m e) (inf false) p q p' q' v w h k = absurd p'
mul_mono f x y (fin false m e) (inf false) p q p' q' v w h k = top (mul f x y) (mul_plain f x y p q v) (eqb m 0) w
mul_mono f x y (fin true m e) (fin t n d) p q p' q' v w h k = absurd p'
mul_mono f x y (fin false m e) (fin true n d) p q p' q' v w h k = absurd q'
mul_mono f x y (fin false m e) (fin false n d) p q p' q' v w h k =
    by_fin (λ x. le (mul f x y) (mul f (fin false m e) (fin false n d)) ≡ true) x (fin false m e) p tt h
    (λ a b u. by_fin (λ y. le (mul f (fin false a b) y) (mul f (fin false m e) (fin false n d)) ≡ true) y (fin false n d) q tt k
    (λ c g v. mul_fractions f a b c g m e n d (rw u at h) (rw v at k)))

-- the same below finite values, where no product is nan
pub mul_mono_finite : (f : Format) (x y x' y' : Float) → T (plain x) → T (plain y) → T (plain x') → T (plain y') → T (finite x') → T (finite y') → le x x' ≡ true → le y y' ≡ true → le (mul f x y) (mul f x' y') ≡ true
mul_mono_finite f x y x' y' p q p' q' u v h k =
    mul_mono f x y x' y' p q p' q'
    (plain_no_nan (mul f x y) (mul_plain_finite f x y p (finite_under x x' p u h) q (finite_under y y' q v k)))
    (plain_no_nan (mul f x' y') (mul_plain_finite f x' y' p' u q' v)) h k
