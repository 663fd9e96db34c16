-- Integers in text (document 01, "Frame and result"): "Integers are decimal, of any length, no leading zero, minus only before non-zero".
-- Definitions only. `proofs/` shows that reading what was written gives the integer back, and that writing what was read gives the bytes back.
use Rattle.std.specs.Prelude.{Bool, ◌&&◌, cond, List, [], ◌∷◌, ◌++◌, ℕ, zero, suc, ◌+◌, ◌-◌, ◌*◌, ◌/◌, ◌%◌, ℤ, pos, negsuc, ltb, leb, eqb}

-- integers are held as words that are this much higher
abbrev pub offset : ℕ
offset = 1000000

-- ---- written

-- the digits of n in base ten, at most f of them, the most significant first
unfoldable pub decimal_up_to : ℕ → ℕ → List ℕ
decimal_up_to zero n = []
decimal_up_to (suc f) n = cond (ltb n 10) [] (decimal_up_to f (n / 10)) ++ ((48 + n % 10) ∷ [])

-- all digits of n: it has no more than n + 1 (`proofs/`: `decimal_digits`)
unfoldable pub decimal : ℕ → List ℕ
decimal n = decimal_up_to (suc n) n

-- a minus, byte 45, stands before what is below 0
unfoldable pub integer_text : ℤ → List ℕ
integer_text (pos n) = decimal n
integer_text (negsuc n) = 45 ∷ decimal (suc n)

-- ---- read

-- what stands at the front of a text: a value and the text behind it, or nothing fit
pub data Front (A : Type 0) : Type 0 where
  broken : Front A
  front : A → List ℕ → Front A

abbrev pub is_digit : ℕ → Bool
is_digit b = leb 48 b && leb b 57

-- the digits at the front, as far as they go, after those that made v
unfoldable pub digits_after : ℕ → List ℕ → Front ℕ
digits_after v [] = front v []
digits_after v (b ∷ text) = cond (is_digit b) (digits_after (v * 10 + (b - 48)) text) (front v (b ∷ text))

-- a number above 0: its first digit is not 0
unfoldable pub read_positive : List ℕ → Front ℕ
read_positive [] = broken
read_positive (b ∷ text) = cond (leb 49 b && leb b 57) (digits_after (b - 48) text) broken

abbrev pub negated : ℕ → ℤ
negated zero = pos zero
negated (suc n) = negsuc n

abbrev pub mapped : (ℕ → ℤ) → Front ℕ → Front ℤ
mapped f broken = broken
mapped f (front n text) = front (f n) text

-- 0; or a minus and a number above 0; or a number above 0
unfoldable pub read_integer : List ℕ → Front ℤ
read_integer [] = broken
read_integer (b ∷ text) = cond (eqb b 48) (front (pos 0) text) (cond (eqb b 45) (mapped negated (read_positive text)) (mapped pos (read_positive (b ∷ text))))
