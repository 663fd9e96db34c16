-- Lines read and printed by the definitions.
use mathlib.Core.Path.{◌≡◌, refl}
use mathlib.Core.List.{List, [], ◌∷◌}
use Prim.Native.Nat.{ℕ}
use lib.IntN.{pos, negsuc}
use Rattle.binary32.specs.Hex.{digits, digit_value, read_digits}
use Rattle.line_form.specs.Integers.{decimal_up_to, decimal, integer_text, digits_after, read_positive, read_integer}
use Rattle.line_form.specs.Forms.{bytes, bits, whole, number_text, printed, piece_of, misfit, fitted, fit_of}
use Rattle.std.proofs.Common.{Some}
use Rattle.line_form.specs.Held.{held_whole, held, held_up_to, held_fit}
use Rattle.line_form.specs.Written.{unheld_whole, unheld_number, unheld, form_text}

abbrev label : List ℕ
label = bytes "(label # (# #))\n"

-- a line that has the form
label_read : fit_of label (bytes "(label 120 (-3 0))\n") ≡ fitted (whole (pos 120) ∷ whole (negsuc 2) ∷ whole (pos 0) ∷ [])
unfolding fit_of piece_of read_integer read_positive digits_after
label_read = refl

label_printed : printed label (whole (pos 120) ∷ whole (negsuc 2) ∷ whole (pos 0) ∷ []) ≡ bytes "(label 120 (-3 0))\n"
unfolding printed number_text integer_text decimal decimal_up_to
label_printed = refl

-- lines that have not: a leading zero, a minus before 0, a plus, no digit, two spaces, no LF, a byte too many
pub record Misfits : Type 0 where
  pub leading_zero : fit_of label (bytes "(label 012 (0 0))\n") ≡ misfit
  pub minus_zero : fit_of label (bytes "(label 1 (-0 0))\n") ≡ misfit
  pub plus : fit_of label (bytes "(label +1 (0 0))\n") ≡ misfit
  pub no_digit : fit_of label (bytes "(label - (0 0))\n") ≡ misfit
  pub two_spaces : fit_of label (bytes "(label 1  (0 0))\n") ≡ misfit
  pub no_end : fit_of label (bytes "(label 1 (0 0))") ≡ misfit
  pub one_more : fit_of label (bytes "(label 1 (0 0))\n\n") ≡ misfit

misfits : Misfits
unfolding fit_of piece_of read_integer read_positive digits_after
misfits = record { leading_zero = refl; minus_zero = refl; plus = refl; no_digit = refl; two_spaces = refl; no_end = refl; one_more = refl }

-- a float has eight lowercase digits
float_read : fit_of (bytes "(cell %)\n") (bytes "(cell 4120000f)\n") ≡ fitted (bits 0x4120_000f ∷ [])
unfolding fit_of piece_of read_digits digit_value
float_read = refl

upper_case : fit_of (bytes "(cell %)\n") (bytes "(cell 4120000F)\n") ≡ misfit
unfolding fit_of piece_of read_digits digit_value
upper_case = refl

seven_digits : fit_of (bytes "(cell %)\n") (bytes "(cell 4120000)\n") ≡ misfit
unfolding fit_of piece_of read_digits digit_value
seven_digits = refl

-- integers are cut where they are held
integers_held : held_fit (fit_of (bytes "# # # #") (bytes "999999 99999999999999999999 -999999 -1000001"))
    ≡ Some (1999999 ∷ 2000000 ∷ 1 ∷ 0 ∷ 0 ∷ [])
unfolding fit_of piece_of read_integer read_positive digits_after held_fit held_up_to held held_whole
integers_held = refl

-- a line written from words
words_written : form_text (bytes "(# #) %\n") (999993 ∷ 1000000 ∷ 0xdeadbeef ∷ []) ≡ bytes "(-7 0) deadbeef\n"
unfolding form_text unheld unheld_number unheld_whole printed number_text integer_text decimal decimal_up_to digits
words_written = refl
