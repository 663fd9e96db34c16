-- What an answer of the library says, in document 01's numbers and values (01: "Where an answer is an enum, a definition gives, for each of its
-- cases, this paper's number and values"). Each crate that declares such an enum has that definition. Definitions only.
use Rattle.std.specs.Prelude.{Bool, List, ℕ, ℤ, Float}

-- a value: a whole number, one with a sign, a float, yes or no, or `none` in place of a float
pub data Value : Type 0 where
  whole : ℕ → Value
  signed : ℤ → Value
  float : Float → Value
  yes_or_no : Bool → Value
  none : Value

-- one case of an answer: a refusal's number, for a frame with its line, or values, in 01's order
pub data Said : Type 0 where
  number : ℕ → Said
  number_and_line : ℕ → ℕ → Said
  values : List Value → Said
