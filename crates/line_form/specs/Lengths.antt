-- How long a printed line can be. Definitions only; the bound is `printed_length` of `proofs/Laws.antt`.
use Rattle.std.specs.Prelude.{cond, ◌≡◌, List, [], ◌∷◌, ℕ, ◌+◌, ◌≤◌, ◌<◌, nat_abs, length}
use Rattle.line_form.specs.Integers.{decimal}
use Rattle.line_form.specs.Forms.{Number, bits, whole, is_slot}

-- how many numbers a form has
unfoldable pub slots : List ℕ → ℕ
slots [] = 0
slots (c ∷ form) = cond (is_slot c) 1 0 + slots form

-- every integer has at most seven digits
abbrev pub Short : List Number → Type 0
Short [] = Unit {0}
Short (bits b ∷ ns) = Short ns
Short (whole z ∷ ns) = (nat_abs z < 10000000) × Short ns

-- the digits of a number, counted: at most 20
pub record DigitCount (n r : ℕ) : Type 0 where
  pub is : r ≡ length (decimal n)
  pub few : r ≤ 20
