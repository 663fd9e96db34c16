-- Lines that have a form (document 01, "Frame and result"). A form is a text in which the byte % stands for a float, # for an integer, and
-- every other byte for itself; "One space between parts, LF after each line": both stand in the form. Definitions only.
use Rattle.std.specs.Prelude.{◌≡◌, Bool, true, false, ◌&&◌, ◌||◌, cond, List, [], ◌∷◌, ◌++◌, ℕ, ◌<◌, ℤ, ltb, leb, eqb, length, get_or, drop, Option, None, Some}
use Prim.Native.Char.{code}
use Prim.Native.String.{String, [] as []ˢ, ◌∷◌ as ◌∷ˢ◌}
use Rattle.binary32.specs.Hex.{hex_text, read_bits}
use Rattle.line_form.specs.Integers.{integer_text, Front, broken, front, read_integer}

-- a form as it is written here, byte by byte
abbrev pub bytes : String → List ℕ
bytes []ˢ = []
bytes (c ∷ˢ s) = code c ∷ bytes s

-- a number of a line: a float by its bits, or an integer
pub data Number : Type 0 where
  bits : ℕ → Number
  whole : ℤ → Number

-- ---- a line printed from its form and its numbers

unfoldable pub number_text : Number → List ℕ
number_text (bits b) = hex_text b
number_text (whole z) = integer_text z

-- % is byte 37, # is byte 35
abbrev pub is_slot : ℕ → Bool
is_slot c = eqb c 37 || eqb c 35

-- the first number's text, and none where numbers are wanting
abbrev pub first_text : List Number → List ℕ
first_text [] = []
first_text (n ∷ ns) = number_text n

unfoldable pub printed : List ℕ → List Number → List ℕ
printed [] ns = []
printed (c ∷ form) ns = cond (is_slot c) (first_text ns) (c ∷ []) ++ printed form (cond (is_slot c) (drop 1 ns) ns)

-- ---- a line read by its form

-- what stands at the front of a text for one byte of a form: nothing fit, the byte itself, or a number; and the text behind it
pub data Piece : Type 0 where
  no_piece : Piece
  same : List ℕ → Piece
  number : Number → List ℕ → Piece

abbrev pub bits_piece : Option ℕ → List ℕ → Piece
bits_piece (Some b) text = number (bits b) text
bits_piece None text = no_piece

abbrev pub whole_piece : Front ℤ → Piece
whole_piece broken = no_piece
whole_piece (front z text) = number (whole z) text

abbrev pub byte_piece : ℕ → List ℕ → Piece
byte_piece c [] = no_piece
byte_piece c (b ∷ text) = cond (eqb b c) (same text) no_piece

unfoldable pub piece_of : ℕ → List ℕ → Piece
piece_of c text = cond (eqb c 37) (bits_piece (read_bits text) (drop 8 text)) (cond (eqb c 35) (whole_piece (read_integer text)) (byte_piece c text))

-- a line that has the form, with its numbers in order; or it has not
pub data Fitted : Type 0 where
  misfit : Fitted
  fitted : List Number → Fitted

abbrev pub before : Number → Fitted → Fitted
before n misfit = misfit
before n (fitted ns) = fitted (n ∷ ns)

abbrev pub then : Piece → (List ℕ → Fitted) → Fitted
then no_piece rest = misfit
then (same text) rest = rest text
then (number n text) rest = before n (rest text)

-- the whole line, to its last byte
unfoldable pub fit_of : List ℕ → List ℕ → Fitted
fit_of [] [] = fitted []
fit_of [] (b ∷ line) = misfit
fit_of (c ∷ form) line = then (piece_of c line) (λ text. fit_of form text)

-- the second byte of a line is b
abbrev pub second_is : ℕ → List ℕ → Bool
second_is b line = leb 2 (length line) && eqb (get_or line 1 0) b

-- ---- numbers that a form has room for

-- the numbers of a form, in order and in kind: a float's bits for each %, an integer for each #
pub data Suits : List ℕ → List Number → Type 0 where
  none_left : Suits [] []
  a_float : {form : List ℕ} {ns : List Number} (b : ℕ) → b < 0x1_0000_0000 → Suits form ns → Suits (37 ∷ form) (bits b ∷ ns)
  an_integer : {form : List ℕ} {ns : List Number} (z : ℤ) → Suits form ns → Suits (35 ∷ form) (whole z ∷ ns)
  a_byte : {form : List ℕ} {ns : List Number} (c : ℕ) → is_slot c ≡ false → Suits form ns → Suits (c ∷ form) ns

-- a byte that ends an integer: itself in a form, and no digit
abbrev pub is_end : ℕ → Bool
is_end c = cond (is_slot c) false (ltb c 48 || ltb 57 c)

abbrev pub ends_first : List ℕ → Bool
ends_first [] = false
ends_first (c ∷ form) = is_end c

-- after each # of a form stands a byte that ends an integer
unfoldable pub apart : List ℕ → Bool
apart [] = true
apart (c ∷ form) = cond (eqb c 35) (cond (ends_first form) (apart form) false) (apart form)

-- ---- the laws, proved in proofs/

-- reading what was printed gives the numbers back
abbrev pub ReadsBack : Type 0
ReadsBack = (form : List ℕ) (ns : List Number) → apart form ≡ true → Suits form ns → fit_of form (printed form ns) ≡ fitted ns

-- printing what was read gives the line back, and its numbers suit the form
pub record PrintsBack (form line : List ℕ) (ns : List Number) : Type 0 where
  pub line_again : line ≡ printed form ns
  pub suits : Suits form ns
