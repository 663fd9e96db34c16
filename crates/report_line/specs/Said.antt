-- That each pass line prints the values that the answer of its pass says, in that order, local's last value on a line of its own if any shade stands.
-- Definitions only.
use Rattle.std.specs.Prelude.{◌≡◌, true, false, List, [], ◌∷◌, ◌++◌, ℕ, pos, take, drop, None, Some}
use Rattle.std.specs.Float.{binary32}
use Rattle.std.specs.Float.Ieee.{to_bits}
use Rattle.refusal.specs.Said.{Value, whole, signed, float, yes_or_no, none}
use Rattle.binary32.specs.Hex.{hex_text}
use Rattle.line_form.specs.Forms.{bytes}
use Rattle.line_form.specs.Integers.{integer_text}
use Rattle.passes.specs.declared.GrowStats.{GrowStats}
use Rattle.passes.specs.declared.FillStats.{FillStats}
use Rattle.passes.specs.declared.LocalStats.{LocalStats}
use Rattle.passes.specs.Said.{grow_values, fill_values, local_values}
use Rattle.report_line.specs.Result.{grow_line, fill_line, local_line, local_lines}

-- a value in a line
unfoldable pub value_text : Value → List ℕ
value_text (whole n) = integer_text (pos n)
value_text (signed z) = integer_text z
value_text (float x) = hex_text (to_bits binary32 x)
value_text (yes_or_no true) = bytes "yes"
value_text (yes_or_no false) = bytes "no"
value_text none = bytes "none"

-- a line behind its word: "One space between parts, LF after each line"
unfoldable pub values_text : List Value → List ℕ
values_text [] = bytes ")\n"
values_text (v ∷ vs) = bytes " " ++ (value_text v ++ values_text vs)

-- proved in proofs/Said.antt
pub record LinesSay : Type 0 where
  pub grow : (s : GrowStats) → grow_line s ≡ bytes "(grow" ++ values_text (grow_values s)
  pub fill : (s : FillStats) → fill_line s ≡ bytes "(fill" ++ values_text (fill_values s)
  pub local : (s : LocalStats) → local_line s ≡ bytes "(local" ++ values_text (take 7 (local_values s))
  pub unmatched : (s : LocalStats) (n : ℕ) → s.unmatched ≡ Some n
      → local_lines s ≡ local_line s ++ (bytes "(unmatched" ++ values_text (drop 7 (local_values s)))
  pub no_shades : (s : LocalStats) → s.unmatched ≡ None → local_lines s ≡ local_line s
