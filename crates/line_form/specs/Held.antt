-- Numbers of a line as the code holds them, one word of 32 bits each. Definitions only.
use Rattle.std.specs.Prelude.{cond, List, [], ◌∷◌, ℕ, zero, suc, ◌+◌, ◌-◌, min, ℤ, pos, negsuc, ltb, length, set, Option, None, Some}
use Rattle.line_form.specs.Integers.{offset, Front, broken, front}
use Rattle.line_form.specs.Forms.{Number, bits, whole, Piece, no_piece, same, number, Fitted, misfit, fitted}
use Rattle.line_form.specs.declared.read.Taken.{Taken}

-- 1,000,000 + z, cut to 0 .. 2,000,000: so an integer of any length is held, and those beyond 1,000,000 either way are alike
unfoldable pub held_whole : ℤ → ℕ
held_whole (pos n) = offset + min offset n
held_whole (negsuc n) = offset - suc n

-- a float is held as its bits
unfoldable pub held : Number → ℕ
held (bits b) = b
held (whole z) = held_whole z

-- the first k numbers, zeros behind them
unfoldable pub held_up_to : ℕ → List Number → List ℕ
held_up_to zero ns = []
held_up_to (suc k) [] = 0 ∷ held_up_to k []
held_up_to (suc k) (n ∷ ns) = held n ∷ held_up_to k ns

-- what `fit_line` answers: a line has up to five numbers
unfoldable pub held_fit : Fitted → Option (List ℕ)
held_fit misfit = None
held_fit (fitted ns) = Some (held_up_to 5 ns)

-- ---- what the steps of `fit_line` hand on

-- a byte that stands for itself, and a number that is held as v, each with how many bytes stand behind it
abbrev pub plain : ℕ → Taken (Option ℕ)
plain left = record { value = None; left = left }

abbrev pub word : ℕ → ℕ → Taken (Option ℕ)
word v left = record { value = Some v; left = left }

-- a piece at the front of a text
unfoldable pub held_piece : Piece → Option (Taken (Option ℕ))
held_piece no_piece = None
held_piece (same text) = Some (plain (length text))
held_piece (number n text) = Some (word (held n) (length text))

-- digits at the front of a text: their number, cut to 1,000,000, and how many bytes stand behind them
unfoldable pub held_digits : Front ℕ → Taken ℕ
held_digits broken = record { value = 0; left = 0 }
held_digits (front n text) = record { value = min offset n; left = length text }

-- the same of a number above 0, or none
unfoldable pub held_positive : Front ℕ → Option (Taken ℕ)
held_positive broken = None
held_positive (front n text) = Some (held_digits (front n text))

-- a number at place k, if there is one
unfoldable pub kept : List ℕ → ℕ → ℕ → List ℕ
kept vs k v = cond (ltb k 5) (set vs k v) vs
