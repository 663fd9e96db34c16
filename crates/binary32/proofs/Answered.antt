-- What is answered at a float, by its pattern. Assumes nothing.
use Prim.Native.Nat.{ℕ, zero, suc, ◌*◌, ◌%◌, ◌^◌, ◌≤◌, ◌<◌}
use mathlib.Core.Path.{◌≡◌, refl, sym, ap, subst, ◌∙◌}
use mathlib.Core.Logic.{◌⊎◌, inl, inr}
use mathlib.Core.Bool.{Bool, true, false, not}
use native.Mathlib.Nat.{zero-mul, mul-pos, lt_irrefl}
use native.Mathlib.Decide.{dec_le}
use native.Mathlib.Omega.{arith}
use borrow.Author.Tests.{le-leb, lt-leb, le-ltb}
use lib.Dec.{T, leb}
use lib.Ieee.{Float, nan, inf, fin, binary32, up, down, of_bits, to_bits, fits, ne, is_nan, nan_bits}
use lib.Ieee.Bits.{of_bits-to_bits, to_bits-lt, nan_bits_is, nan_bits_above}
use lib.Ieee.Compare.{differs_from_itself}
use lib.Ieee.Exact.{HasValue}
use lib.Ieee.Fits.{down_pos}
use Rattle.refusal.specs.declared.Refusal.{Refusal}
use Rattle.refusal.specs.declared.Refusal.TheVariants.{OutOfRange}
use Rattle.std.proofs.Common.{Result, Ok, Err}
use Rattle.binary32.specs.Sqrt.{units_of, RootOf, Answers}
use Rattle.binary32.proofs.Patterns.{value, beyond, magnitude_pos}

-- ---- a NaN

untrue : true ≡ false → ⊥
untrue e = subst T e tt

pub at_nan : (x : Float) → is_nan x ≡ true → Answers x (Err OutOfRange)
unfolding Answers is_nan
at_nan nan t = refl
at_nan (inf s) t = absurd (untrue (sym t))
at_nan (fin s m e) t = absurd (untrue (sym t))

-- a NaN alone differs from itself
pub nan_bits_lem : (x : Float) → ne x x ≡ true → 0x7fc0_0000 ≡ to_bits binary32 x
unfolding to_bits
nan_bits_lem x t = sym (ap (to_bits binary32) (differs_from_itself x (subst T (sym t) tt)))

pub no_nan : (x : Float) → ne x x ≡ false → T (not (is_nan x))
unfolding is_nan ne
no_nan nan t = subst T t tt
no_nan (inf s) t = tt
no_nan (fin s m e) t = tt

-- ---- the zeros

-- a float by its pattern
by_pattern : (x : Float) (b : ℕ) → T (fits binary32 x) → to_bits binary32 x ≡ b → of_bits binary32 b ≡ x
by_pattern x b f e = sym (ap (of_bits binary32) e) ∙ of_bits-to_bits binary32 x f

pub at_zero : (x : Float) → T (fits binary32 x) → to_bits binary32 x ≡ 0 → Answers x (Ok x)
unfolding Answers of_bits
at_zero x f e = subst (λ (v : Float). Answers v (Ok v)) (by_pattern x 0 f e) refl

pub at_minus_zero : (x : Float) → T (fits binary32 x) → to_bits binary32 x ≡ 0x8000_0000 → Answers x (Ok x)
unfolding Answers of_bits
at_minus_zero x f e = subst (λ (v : Float). Answers v (Ok v)) (by_pattern x 0x8000_0000 f e) refl

-- ---- what has a value above or below zero

no_zero : (u a c d : ℕ) → 0 < a → 0 < d → 0 * u * c ≡ a * d → ⊥
no_zero u a c d A D h = lt_irrefl 0 (subst (λ (n : ℕ). 0 < n) (sym h ∙ ap (λ (n : ℕ). n * c) (zero-mul u) ∙ zero-mul c) (mul-pos A D))

negative : (x : Float) (a c : ℕ) → 0 < a → HasValue x true a c → Answers x (Err OutOfRange)
unfolding Answers
negative (fin s zero e) a c A v = absurd (no_zero (up e) a c (down e) A (down_pos e) v.1)
negative (fin true (suc m) e) a c A v = refl
negative (fin false (suc m) e) a c A v = absurd (untrue (sym v.0))
negative nan a c A v = elim v [ ]
negative (inf _) a c A v = elim v [ ]

positive : (x : Float) (r a c : ℕ) → 0 < a → HasValue x false a c → RootOf (to_bits binary32 x) r → Answers x (Ok (of_bits binary32 r))
unfolding Answers
positive (fin s zero e) r a c A v k = absurd (no_zero (up e) a c (down e) A (down_pos e) v.1)
positive (fin true (suc m) e) r a c A v k = absurd (untrue v.0)
positive (fin false (suc m) e) r a c A v k = (r, refl, k)
positive nan r a c A v k = elim v [ ]
positive (inf _) r a c A v k = elim v [ ]

-- ---- a pattern from the infinity's up that is not the negative zero's

at_infinite : (x : Float) (s : Bool) → (x ≡ inf s) ⊎ (x ≡ nan) → Answers x (Err OutOfRange)
unfolding Answers
at_infinite x s (inl e) = subst (λ (v : Float). Answers v (Err OutOfRange)) (sym e) refl
at_infinite x s (inr e) = subst (λ (v : Float). Answers v (Err OutOfRange)) (sym e) refl

refused : (b : ℕ) → b < 0x1_0000_0000 → 0x7f80_0000 ≤ b → (b ≡ 0x8000_0000 → ⊥) → Answers (of_bits binary32 b) (Err OutOfRange)
refused b h l z = go (dec_le 0x7f80_0000 (b % 0x8000_0000))
  where
    go : Dec (0x7f80_0000 ≤ b % 0x8000_0000) → Answers (of_bits binary32 b) (Err OutOfRange)
    go (yes k) = at_infinite (of_bits binary32 b) (leb 0x8000_0000 b) (beyond b k)
    go (no f) =
        negative (of_bits binary32 b) (units_of (b % 0x8000_0000)) (2 ^ 149) (magnitude_pos (b % 0x8000_0000) (omega arith))
        (subst (λ (s : Bool). HasValue (of_bits binary32 b) s (units_of (b % 0x8000_0000)) (2 ^ 149)) (le-leb 0x8000_0000 b (omega arith)) (value b (omega arith)))

pub at_others : (x : Float) → T (fits binary32 x) → 0x7f80_0000 ≤ to_bits binary32 x → (to_bits binary32 x ≡ 0x8000_0000 → ⊥) → Answers x (Err OutOfRange)
at_others x f l z = subst (λ (v : Float). Answers v (Err OutOfRange)) (of_bits-to_bits binary32 x f) (refused (to_bits binary32 x) (to_bits-lt binary32 x f) l z)

-- ---- a positive finite float

-- a pattern that is not above the infinity's without its sign is no NaN's
pub pattern : (r : ℕ) → r % 0x8000_0000 ≤ 0x7f80_0000 → T (not (nan_bits binary32 r))
pattern r h = rw (nan_bits_above binary32 r, le-ltb 0x7f80_0000 (r % 0x8000_0000) (omega arith)) tt

pub at_positive : (x : Float) (r : ℕ) → T (fits binary32 x) → 0 < to_bits binary32 x → to_bits binary32 x < 0x7f80_0000 → RootOf (to_bits binary32 x) r → Answers x (Ok (of_bits binary32 r))
at_positive x r f p h k =
    let b = to_bits binary32 x in
    positive x r (units_of (b % 0x8000_0000)) (2 ^ 149) (magnitude_pos (b % 0x8000_0000) (omega arith))
    (subst (λ (v : Float). HasValue v false (units_of (b % 0x8000_0000)) (2 ^ 149)) (of_bits-to_bits binary32 x f)
    (subst (λ (s : Bool). HasValue (of_bits binary32 b) s (units_of (b % 0x8000_0000)) (2 ^ 149)) (lt-leb 0x8000_0000 b (omega arith)) (value b (omega arith))))
    k

-- ---- what is answered is no NaN

never : (r : Float) (n : Refusal) → ◌≡◌ {A = Result Float Refusal} (Ok r) (Err n) → ⊥
never r n e = cc

of_root : (r v : Float) → ◌≡◌ {A = Result Float Refusal} (Ok r) (Ok v) → T (not (is_nan v)) → T (not (is_nan r))
of_root r v e t =
    let s : v ≡ r = cc in
    subst (λ (w : Float). T (not (is_nan w))) s t

pub answer_no_nan : (x r : Float) → Answers x (Ok r) → T (not (is_nan r))
unfolding Answers is_nan
answer_no_nan nan r a = absurd (never r OutOfRange a)
answer_no_nan (inf s) r a = absurd (never r OutOfRange a)
answer_no_nan (fin s zero e) r a = of_root r (fin s zero e) a tt
answer_no_nan (fin true (suc m) e) r a = absurd (never r OutOfRange a)
answer_no_nan (fin false (suc m) e) r a = of_root r (of_bits binary32 a.0) a.1 (subst (λ (t : Bool). T (not t)) (nan_bits_is binary32 a.0) (pattern a.0 (omega (arith, a.2.finite))))
