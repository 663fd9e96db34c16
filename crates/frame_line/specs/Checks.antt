-- The checks of a line's numbers by the table, the same for every kind: each sort of number has its refusal. Definitions only.
use Rattle.std.specs.Prelude.{Bool, false, not, ◌&&◌, ◌||◌, List, [], ◌∷◌, ℕ, suc, eqb, ℤ, pos, Option, None, Some}
use Rattle.std.specs.Int.Signed.{le_z, lt_z}
use Rattle.std.specs.Float.{binary32}
use Rattle.std.specs.Float.Ieee.{of_bits}
use Rattle.binary32.specs.declared.ranges.Quantity.{Quantity}
use Rattle.refusal.specs.Refusal.{number_of}
use Rattle.arguments.specs.Arguments.{outside}
use Rattle.line_form.specs.Forms.{Number, bits, whole}
use Rattle.line_form.specs.Written.{unheld_whole}
use Rattle.frame_line.specs.Table.{sort_at}
use Rattle.frame_line.specs.Lines.{Line}
use Rattle.frame_line.specs.declared.Sort.{Sort}

-- "Ranges, by value (−0 is 0)": the float of a pattern is not in the range of its quantity
unfoldable pub wild_bits : Quantity → ℕ → Bool
wild_bits q b = outside q (of_bits binary32 b)

-- an integer is not from low to high
abbrev pub wild_whole : ℤ → ℤ → ℤ → Bool
wild_whole low high z = not (le_z low z && le_z z high)

-- the refusal of a sort: "number non-finite or out of range" (3), "label's cell outside" (4), "label's corner not given" (5); of a shade, "a k
-- other than 0 or 1 is number 1, .. an unknown corner 5"
abbrev pub refusal_of : Sort → ℕ
refusal_of (Sort.Float q) = 3
refusal_of (Sort.Whole refusal low high) = number_of refusal
refusal_of Sort.Corner = 5

-- with n corners given, a number is not what its sort asks for
abbrev pub wild : ℕ → Sort → Number → Bool
wild n (Sort.Float q) (bits b) = wild_bits q b
wild n (Sort.Float q) (whole z) = false
wild n (Sort.Whole refusal low high) (bits b) = false
wild n (Sort.Whole refusal low high) (whole z) = wild_whole (unheld_whole low) (unheld_whole high) z
wild n Sort.Corner (bits b) = false
wild n Sort.Corner (whole z) = not (le_z (pos 0) z && lt_z z (pos n))

-- a number has this refusal; one that the form has not has none
unfoldable pub number_outside : ℕ → ℕ → Option Sort → Number → Bool
number_outside r n None x = false
number_outside r n (Some s) x = eqb r (refusal_of s) && wild n s x

-- some number of a list has it, the numbers being those of row k from m on
unfoldable pub some_outside : ℕ → ℕ → ℕ → ℕ → List Number → Bool
some_outside r n k m [] = false
some_outside r n k m (x ∷ xs) = number_outside r n (sort_at k m) x || some_outside r n k (suc m) xs

unfoldable pub outside_line : ℕ → ℕ → Line → Bool
outside_line r n l = some_outside r n l.row 0 l.numbers
