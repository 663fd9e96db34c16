-- The square root of document 01, "Number": what it answers, as a relation and as a function. Definitions only.
-- `proofs/Unique.antt` shows that a pattern has one root at most, `proofs/Exists.antt` that every positive finite one has a root,
-- and `proofs/Rooting.antt` that the function is what the relation says.
use Rattle.std.specs.Prelude.{ℕ, zero, suc, ◌+◌, ◌-◌, ◌*◌, ◌/◌, ◌%◌, ◌^◌, ◌<◌, ◌≡◌, Bool, true, false, cond, ltb, Float, Result, Ok, Err}
use Rattle.std.specs.Float.{nan, inf, fin, binary32}
use Rattle.std.specs.Float.Ieee.{of_bits, to_bits}
use Rattle.std.specs.Result.{result_unwrap_or}
use Rattle.refusal.specs.declared.Refusal.{Refusal}
use Rattle.refusal.specs.declared.Refusal.TheVariants.{OutOfRange}

-- The number that a pattern below the infinity's stands for, in units of 2 ^ -149, the smallest above zero:
-- 23 digits, with a 1 before them unless the exponent's field is 0, times two to the field less one.
unfoldable pub units_of : ℕ → ℕ
units_of b = (cond (ltb b 0x80_0000) 0 0x80_0000 + b % 0x80_0000) * 2 ^ (b / 0x80_0000 - 1)

abbrev pub square : ℕ → ℕ
square n = n * n

-- r is the root of b, rounded to nearest even: the squares of the two midpoints beside the answer enclose the exact input.
-- The sum of two neighbours is twice their midpoint, and a square is in units of 2 ^ -298, so all is said four times over.
-- Both sides are strict: no midpoint's square is a binary32 number, so there is never a tie to break.
pub record RootOf (b r : ℕ) : Type 0 where
  pub finite : r < 0x7f80_0000
  pub above : square (units_of (r - 1) + units_of r) < 4 * (units_of b * 2 ^ 149)
  pub under : 4 * (units_of b * 2 ^ 149) < square (units_of r + units_of (r + 1))

-- What is answered at x: any non-negative finite float gets its root, either zero itself, and any other gets number 3.
unfoldable pub Answers : Float → Result Float Refusal → Type 0
Answers nan a = a ≡ Err OutOfRange
Answers (inf s) a = a ≡ Err OutOfRange
Answers (fin s zero e) a = a ≡ Ok (fin s zero e)
Answers (fin true (suc m) e) a = a ≡ Err OutOfRange
Answers (fin false (suc m) e) a = (r : ℕ) × (a ≡ Ok (of_bits binary32 r)) × RootOf (to_bits binary32 (fin false (suc m) e)) r

-- ---- the same answer as a function, for a formula that has a root in it

-- r's lower midpoint is below the root of b
unfoldable pub reaches : ℕ → ℕ → Bool
reaches b r = ltb (square (units_of (r - 1) + units_of r)) (4 * (units_of b * 2 ^ 149))

-- the last pattern that reaches, from r up and below r + 2 ^ k
unfoldable pub climb : ℕ → ℕ → ℕ → ℕ
climb b zero r = r
climb b (suc k) r = climb b k (cond (reaches b (r + 2 ^ k)) (r + 2 ^ k) r)

unfoldable pub rooted : Float → Result Float Refusal
rooted nan = Err OutOfRange
rooted (inf s) = Err OutOfRange
rooted (fin s zero e) = Ok (fin s zero e)
rooted (fin true (suc m) e) = Err OutOfRange
rooted (fin false (suc m) e) = Ok (of_bits binary32 (climb (to_bits binary32 (fin false (suc m) e)) 31 0))

-- the root's value in a formula, and nan where it is refused
abbrev pub value_of : Result Float Refusal → Float
value_of r = result_unwrap_or r nan

abbrev pub sqrt_or_nan : Float → Float
sqrt_or_nan x = value_of (rooted x)
