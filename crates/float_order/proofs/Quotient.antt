-- Quotients of values with no sign: x / x is 1, and x / y is at most 1 where x is at most y. Assumes nothing.
use mathlib.Core.Path.{◌≡◌, refl, subst}
use mathlib.Core.Bool.{true, false}
use Prim.Native.Nat.{ℕ, zero, suc, ◌*◌, ◌≤◌, ◌<◌}
use native.Mathlib.Nat.{mul-pos}
use native.Mathlib.Omega.{arith}
use borrow.Author.Tests.{ltb-false}
use lib.Dec.{T, eqb-suc-zero}
use lib.Ieee.{Float, nan, inf, fin, Format, binary32, binary64, up, down, lt, le, round, div, of_bits}
use lib.Ieee.Bits.{is_true}
use lib.Ieee.Fits.{up_pos, down_pos}
use lib.Ieee.Order.{round_mono}
use lib.Ieee.Scale.{finite}
use Rattle.binary32.specs.Numbers.{one}
use Rattle.float_order.specs.Unsigned.{plain, nonzero}
use Rattle.float_order.proofs.Order.{le→not_lt, le_lt_trans}
use Rattle.float_order.proofs.Unsigned.{finite_under}

round_one : (f : Format) → round f false 1 1 ≡ one
unfolding round of_bits
round_one binary32 = refl
round_one binary64 = refl

some : (m : ℕ) → 0 < suc m
some m = omega arith

-- x / y is at most 1, for an x with no sign that is at most y, a finite y with no sign that is not zero
pub div_at_most_one : (f : Format) (x y : Float) → T (plain x) → T (plain y) → T (finite y) → T (nonzero y) → le x y ≡ true → le (div f x y) one ≡ true
unfolding div
div_at_most_one f nan y p q u v h = absurd p
div_at_most_one f (inf s) y p q u v h = absurd (finite_under (inf s) y p u h)
div_at_most_one f (fin true m e) y p q u v h = absurd p
div_at_most_one f (fin false m e) nan p q u v h = absurd u
div_at_most_one f (fin false m e) (inf t) p q u v h = absurd u
div_at_most_one f (fin false m e) (fin true n d) p q u v h = absurd q
div_at_most_one f (fin false m e) (fin false zero d) p q u v h = absurd v
div_at_most_one f (fin false m e) (fin false (suc n) d) p q u v h =
    let a = m * up e * down d in
    let b = suc n * up d * down e in
    let P : 0 < b = mul-pos (mul-pos (some n) (up_pos d)) (down_pos e) in
    let l : a ≤ b = ltb-false b a (unfold lt in le→not_lt (fin false m e) (fin false (suc n) d) h) in
    rw (eqb-suc-zero n) (subst (λ (z : Float). le (round f false a b) z ≡ true) (round_one f) (is_true _ (round_mono f a b 1 1 P (omega arith) (omega arith))))

-- and x / y is below whatever is above 1
pub div_below : (f : Format) (x y z : Float) → T (plain x) → T (plain y) → T (finite y) → T (nonzero y) → le x y ≡ true → lt one z ≡ true → lt (div f x y) z ≡ true
div_below f x y z p q u v h k = le_lt_trans (div f x y) one z (div_at_most_one f x y p q u v h) k
