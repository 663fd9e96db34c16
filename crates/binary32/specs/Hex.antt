-- A float in text (document 01, "Number"): eight lowercase hexadecimal digits, its binary32 bits. Definitions only.
-- `proofs/Digits.antt` shows that reading what was written gives the value back, and that writing what was read gives the bytes back.
use Rattle.std.specs.Prelude.{ℕ, zero, suc, ◌+◌, ◌-◌, ◌*◌, ◌/◌, ◌%◌, ◌^◌, cond, ◌&&◌, List, [], ◌∷◌, ltb, leb, eqb, Float, Option, None, Some, Result, Ok, Err}
use Rattle.std.specs.Float.{binary32}
use Rattle.std.specs.Float.Ieee.{of_bits}
use Rattle.refusal.specs.declared.Refusal.{Refusal}
use Rattle.refusal.specs.declared.Refusal.TheVariants.{Malformed, OutOfRange}
use Rattle.binary32.specs.Ranges.{is_finite}

-- the digits of the numbers below 16: 0 to 9 from byte 48 on, a to f from byte 97 on
abbrev pub digit_of : ℕ → ℕ
digit_of n = cond (ltb n 10) (48 + n) (87 + n)

-- ---- written: k digits of n, the most significant first

unfoldable pub digits : ℕ → ℕ → List ℕ
digits zero n = []
digits (suc k) n = digit_of (n / 2 ^ (4 * k) % 16) ∷ digits k n

abbrev pub hex_text : ℕ → List ℕ
hex_text bits = digits 8 bits

-- ---- read

-- the number of a digit, and 16 for a byte that is none: upper case is none
unfoldable pub digit_value : ℕ → ℕ
digit_value b = cond (leb 48 b && leb b 57) (b - 48) (cond (leb 97 b && leb b 102) (b - 87) 16)

-- the same as an option
unfoldable pub digit_read : ℕ → Option ℕ
digit_read b = cond (eqb (digit_value b) 16) None (Some (digit_value b))

-- k more digits after those that made n
unfoldable pub read_digits : ℕ → ℕ → List ℕ → Option ℕ
read_digits zero n text = Some n
read_digits (suc k) n [] = None
read_digits (suc k) n (b ∷ text) = cond (eqb (digit_value b) 16) None (read_digits k (n * 16 + digit_value b) text)

abbrev pub read_bits : List ℕ → Option ℕ
read_bits text = read_digits 8 0 text

-- a pattern's float, if it is finite: else number 3
unfoldable pub float_of : ℕ → Result Float Refusal
float_of bits = cond (is_finite (of_bits binary32 bits)) (Ok (of_bits binary32 bits)) (Err OutOfRange)

-- what is no eight digits is ill-formed: number 1
unfoldable pub float_of_bits : Option ℕ → Result Float Refusal
float_of_bits (Some bits) = float_of bits
float_of_bits None = Err Malformed

abbrev pub read_float : List ℕ → Result Float Refusal
read_float text = float_of_bits (read_bits text)
