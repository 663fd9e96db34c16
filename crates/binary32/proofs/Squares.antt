-- The root rounded down, from its first guess on, and rounded to the nearest whole number. Assumes nothing.
use Prim.Native.Nat.{ℕ, ◌+◌, ◌-◌, ◌*◌, ◌/◌, ◌^◌, ◌≤◌, ◌<◌, min}
use mathlib.Core.Path.{◌≡◌}
use native.Mathlib.Nat.{div-lt_iff_lt-mul, mul-add, add-mul, mul-one, one-mul, mul-le-mul, lt_of_not-le, add-sub_cancel, mul-lt-mul_of_pos_right, mul-le-mul_left, lt_of_lt_of_le, lt_of_le_of_lt}
use native.Mathlib.Decide.{dec_lt}
use native.Mathlib.Omega.{arith}
use Rattle.root_table.specs.Whole.{WholePart}
use Rattle.root_table.proofs.Rule.{square_less}
use Rattle.binary32.specs.Sqrt.{square}
use Rattle.binary32.specs.Steps.{Near, Asked, Enclosed, WholeRoot}

pub odd_square : (s : ℕ) → square (s + (s + 1)) ≡ 4 * square s + 4 * s + 1
odd_square s = simp (mul-add, add-mul, mul-one, one-mul) (omega arith)

pub even_square : (s : ℕ) → square (s + s) ≡ 4 * square s
even_square s = simp (mul-add, add-mul) (omega arith)

-- a smaller number has a smaller square
pub square_lt : (a b : ℕ) → a < b → square a < square b
square_lt a b h = lt_of_le_of_lt (mul-le-mul_left a (omega arith)) (mul-lt-mul_of_pos_right h (omega arith))

next_square : (t : ℕ) → square (t + 2) ≡ square (t + 1) + 2 * t + 3
next_square t = simp (mul-add, add-mul, mul-one, one-mul) (omega arith)

scaled_square : (t : ℕ) → square (t * 0x4000) ≡ square t * 2 ^ 28
scaled_square t = omega arith

-- a number up to 2 ^ 24 has a square up to 2 ^ 48
pub square_small : (k : ℕ) → k ≤ 2 ^ 24 → square k ≤ 2 ^ 48
square_small k h = mul-le-mul h h

-- two numbers that enclose a root are apart
pub enclosed_apart : (n lo hi : ℕ) → Enclosed n lo hi → lo < hi
enclosed_apart n lo hi e = square_less lo hi (lt_of_le_of_lt e.from e.to)

-- ---- the table's guess, as the comment at `first_guess` has it: k is n / 2 ^ 38, and t the whole part of the root of 1,024 k

module _ (n t : ℕ) (a : Asked n) (w : WholePart (1024 * (n / 2 ^ 38)) t) where
  -- k is 256 at least, and so t is 512 at least
  t_least : 512 < t + 1
  t_least = square_less 512 (t + 1) (omega (arith, a.least, w.to))

  -- (t 2 ^ 14) ^ 2 = t ^ 2 2 ^ 28 <= 1,024 k 2 ^ 28 = k 2 ^ 38 <= n
  at_most_the_root : square (t * 0x4000) ≤ n
  at_most_the_root = rw (scaled_square t) (omega (arith, w.from))

  -- n < (k + 1) 2 ^ 38 = 1,024 (k + 1) 2 ^ 28 < (t + 2) ^ 2 2 ^ 28 = ((t + 2) 2 ^ 14) ^ 2
  above_the_root : n < square ((t + 2) * 0x4000)
  above_the_root = rw (scaled_square (t + 2), next_square t) (omega (arith, t_least, w.to))

  pub table_encloses : t < 1023 → Enclosed n (t * 0x4000) ((t + 2) * 0x4000)
  table_encloses h = record { from = at_most_the_root; to = above_the_root; least = omega (arith, t_least); most = omega arith }

  -- no root that is asked reaches 2 ^ 24
  pub table_encloses_last : Enclosed n (t * 0x4000) (2 ^ 24)
  table_encloses_last = record { from = at_most_the_root; to = a.most; least = omega (arith, t_least); most = omega arith }

  -- so the lesser of the two is above the root
  pub lesser_encloses : Enclosed n (t * 0x4000) (min ((t + 2) * 0x4000) (2 ^ 24))
  lesser_encloses = go (dec_lt t 1023)
    where
      go : Dec (t < 1023) → Enclosed n (t * 0x4000) (min ((t + 2) * 0x4000) (2 ^ 24))
      go (yes l) = let e : min ((t + 2) * 0x4000) (2 ^ 24) ≡ (t + 2) * 0x4000 = omega (arith, l) in rw e (table_encloses l)
      go (no f) = let e : min ((t + 2) * 0x4000) (2 ^ 24) ≡ 2 ^ 24 = omega (arith, f) in rw e table_encloses_last

-- ---- Newton's steps, and the test of what they lead to

-- a number of 23 to 26 digits and the quotient by it: their sum is twice what the step leads to
step_small : (n a : ℕ) → n < 2 ^ 48 → 2 ^ 22 ≤ a → a < 2 ^ 26 → a + n / a < 2 ^ 27
step_small n a h l m = omega (arith, quotient)
  where
    quotient : n / a < 2 ^ 26
    quotient = (div-lt_iff_lt-mul {k = a} {x = n} {y = 2 ^ 26} (omega arith)).1 (omega arith)

-- two steps from the middle of a guess
module _ {n lo hi : ℕ} (e : Enclosed n lo hi) where
  abbrev middle : ℕ
  middle = (lo + hi) / 2

  abbrev once : ℕ
  once = (middle + n / middle) / 2

  below : n < 2 ^ 48
  below = lt_of_lt_of_le e.to (square_small hi e.most)

  pub middle_small : lo + hi < 2 ^ 25
  middle_small = omega (arith, enclosed_apart n lo hi e, e.most)

  pub once_small : middle + n / middle < 2 ^ 27
  once_small = step_small n middle below (omega (arith, enclosed_apart n lo hi e, e.least)) (omega (arith, middle_small))

  pub twice_small : once + n / once < 2 ^ 27
  twice_small = step_small n once below (omega (arith, enclosed_apart n lo hi e, e.least)) (omega (arith, once_small))

-- a number whose square is at most n, and that of the next above n, lies in every guess
pub enclosed_within : {n lo hi s : ℕ} → Enclosed n lo hi → square s ≤ n → n < square (s + 1) → Enclosed n s (s + 1)
enclosed_within {n} {lo} {hi} {s} e f t = record {
  from = f;
  to = t;
  least = omega (arith, e.least, square_less lo (s + 1) (lt_of_le_of_lt e.from t));
  most = omega (arith, e.most, square_less s hi (lt_of_le_of_lt f e.to));
}

-- the last root below 2 ^ 24 that is rounded up is not 2 ^ 24 - 1
no_carry : (n s : ℕ) → square s + s < n → n ≤ 2 ^ 48 - 2 ^ 24 → s + 1 < 2 ^ 24
no_carry n s a h = lt_of_not-le (λ (g : 2 ^ 24 ≤ s + 1). large (square s) s (mul-le-mul (least g) (least g)) g a h)
  where
    least : 2 ^ 24 ≤ s + 1 → 2 ^ 24 - 1 ≤ s
    least g = omega arith

    large : (q s : ℕ) → (2 ^ 24 - 1) * (2 ^ 24 - 1) ≤ q → 2 ^ 24 ≤ s + 1 → q + s < n → n ≤ 2 ^ 48 - 2 ^ 24 → ⊥
    large q s a b c d = omega arith

module _ (n s : ℕ) (w : WholeRoot n s) where
  pub rounded_down : n - square s ≤ s → Near n s
  rounded_down h = record {
    low = w.low;
    high = w.high;
    above = lt_of_lt_of_le (square_lt (s - 1 + s) (s + s) (omega arith)) (omega (arith, even_square s));
    under = omega (arith, odd_square s);
  }

  pub rounded_up : s < n - square s → n ≤ 2 ^ 48 - 2 ^ 24 → Near n (s + 1)
  rounded_up h most = record {
    low = omega arith;
    high = no_carry n s (omega arith) most;
    above = rw (add-sub_cancel s 1) (omega (arith, odd_square s));
    under = omega (arith, odd_square (s + 1));
  }
