-- How long a printed line can be whose integers have at most ten digits, as those have that 32 bits hold. Assumes nothing.
use mathlib.Core.Bool.{Bool, true, false, cond}
use mathlib.Core.List.{List, [], ◌∷◌, ◌++◌}
use Prim.Native.Nat.{ℕ, suc, ◌+◌, ◌*◌, ◌≤◌}
use native.Mathlib.Omega.{arith}
use lib.ListN.{length, drop, length-append}
use Rattle.binary32.proofs.Digits.{digits_length}
use Rattle.line_form.specs.Integers.{integer_text}
use Rattle.line_form.specs.Forms.{Number, bits, number_text, is_slot, first_text, printed}
use Rattle.line_form.specs.Lengths.{slots}
use Rattle.line_form.proofs.Decimal.{decimal_length}
use Rattle.report_line.specs.Result.{count}
use Rattle.report_line.specs.Written.{largest_held}

-- every number has at most ten bytes
abbrev pub Wide : List Number → Type 0
Wide [] = Unit {0}
Wide (n ∷ ns) = (length (number_text n) ≤ 10) × Wide ns

pub count_wide : (n : ℕ) → n ≤ largest_held → length (number_text (count n)) ≤ 10
unfolding number_text integer_text
count_wide n h = decimal_length 9 n (omega arith)

pub bits_wide : (b : ℕ) → length (number_text (bits b)) ≤ 10
unfolding number_text
bits_wide b = omega (arith, digits_length 8 b)

first_wide : (ns : List Number) → Wide ns → length (first_text ns) ≤ 10
first_wide [] h = omega arith
first_wide (n ∷ ns) h = h.0

rest_wide : (ns : List Number) → Wide ns → Wide (drop 1 ns)
rest_wide [] h = h
rest_wide (n ∷ ns) h = h.1

-- it is no longer than its form and 9 bytes more for each number
pub printed_wide : (form : List ℕ) (ns : List Number) → Wide ns → length (printed form ns) ≤ length form + 9 * slots form
unfolding printed slots
printed_wide [] ns h = omega arith
printed_wide (c ∷ form) ns h = go (is_slot c) (printed_wide form ns h) (printed_wide form (drop 1 ns) (rest_wide ns h))
  where
    go : (s : Bool) → length (printed form ns) ≤ length form + 9 * slots form → length (printed form (drop 1 ns)) ≤ length form + 9 * slots form
        → length (cond s (first_text ns) (c ∷ []) ++ printed form (cond s (drop 1 ns) ns)) ≤ suc (length form) + 9 * (cond s 1 0 + slots form)
    go true p q = let l = first_wide ns h in simp length-append (omega arith)
    go false p q = omega arith
