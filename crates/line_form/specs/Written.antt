-- A line written from its form and the words that hold its numbers. Definitions only.
use Rattle.std.specs.Prelude.{cond, ◌≡◌, List, [], ◌∷◌, ◌++◌, ℕ, ◌-◌, ltb, eqb, ℤ, pos, length, get_or, drop}
use Rattle.line_form.specs.Integers.{offset, negated}
use Rattle.line_form.specs.Forms.{Number, bits, whole, number_text, is_slot, printed}

-- the integer that a word holds: 1,000,000 less
unfoldable pub unheld_whole : ℕ → ℤ
unheld_whole w = cond (ltb w offset) (negated (offset - w)) (pos (w - offset))

-- the number that a word holds for a byte of a form: % has its bits, # an integer
unfoldable pub unheld_number : ℕ → ℕ → Number
unheld_number c w = cond (eqb c 37) (bits w) (whole (unheld_whole w))

-- the numbers that words hold for a form, in order; 0 stands for a word that is wanting
unfoldable pub unheld : List ℕ → List ℕ → List Number
unheld [] ws = []
unheld (c ∷ form) ws = cond (is_slot c) (unheld_number c (get_or ws 0 0) ∷ []) [] ++ unheld form (cond (is_slot c) (drop 1 ws) ws)

-- the line
unfoldable pub form_text : List ℕ → List ℕ → List ℕ
form_text form ws = printed form (unheld form ws)

-- what is written for one byte of a form
unfoldable pub piece_text : ℕ → ℕ → List ℕ
piece_text c w = cond (is_slot c) (number_text (unheld_number c w)) (c ∷ [])

-- a text was written to the front of a part, which is else as it was; n is how many bytes
pub record Wrote (text old new : List ℕ) (n : ℕ) : Type 0 where
  pub count : n ≡ length text
  pub part : new ≡ text ++ drop (length text) old
