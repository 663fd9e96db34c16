-- Both texts are read as the frames that stand beside them, and the frames differ only in the order of their corner lines. Assumes nothing.
use mathlib.Core.Path.{◌≡◌, refl, subst, sym}
use Prim.Native.Nat.{ℕ, zero, suc, ◌<◌}
use native.Mathlib.Nat.{not-suc-le-zero}
use native.Mathlib.Decide.{ℕ_discrete}
use native.Mathlib.Omega.{arith}
use lib.ListN.{get_or}
use lib.Ieee.{of_bits, of_int, le, lt, eq}
use Rattle.binary32.specs.Hex.{digit_value, read_digits}
use Rattle.binary32.specs.Ranges.{ends_of}
use Rattle.sheet.specs.Pairing.{Shuffle}
use Rattle.arguments.specs.Arguments.{outside}
use Rattle.sheet.specs.Shades.{shade_of}
use Rattle.line_form.specs.Integers.{digits_after, read_positive, read_integer}
use Rattle.line_form.specs.Forms.{piece_of, fit_of}
use Rattle.line_form.specs.Lines.{lines_of}
use Rattle.line_form.specs.Written.{unheld_whole}
use Rattle.frame_line.specs.Table.{rows, row_at, kind_at, form_at, turn_at, may_end, sort_of, sort_at}
use Rattle.frame_line.specs.Lines.{bits_at, whole_at, pass_line_of, first_fit, read_line}
use Rattle.frame_line.specs.Checks.{wild_bits, number_outside, some_outside, outside_line}
use Rattle.frame_check.specs.Checks.{checks_in_order, over_limit, twice_of, may_run, forbidden}
use Rattle.frame.specs.Frame.{opened, adding, parts_from, parts_of, some_of, checked_line, accepted, step_line, at_end, read_lines, read_frame, finish, join_of}
use Rattle.frame.specs.ReadFrame.{shaded, shades_of}
use Rattle.frame_agreement.specs.Reordering.{corner_line, corner_shade, SameShades, SameButOrder}
use Rattle.answer_examples.specs.Pair.{first_text, second_text, first_frame, second_frame, numbers_in_second, numbers_in_first}

-- ---- the texts are read

pub first_read : read_frame first_text ≡ accepted first_frame
unfolding of_bits of_int le lt eq digit_value read_digits ends_of outside digits_after read_positive read_integer piece_of fit_of lines_of unheld_whole rows row_at kind_at form_at turn_at may_end sort_of sort_at bits_at whole_at pass_line_of first_fit read_line wild_bits number_outside some_outside outside_line checks_in_order over_limit twice_of may_run forbidden opened adding parts_from parts_of some_of checked_line join_of finish step_line at_end read_lines read_frame
first_read = refl

pub second_read : read_frame second_text ≡ accepted second_frame
unfolding of_bits of_int le lt eq digit_value read_digits ends_of outside digits_after read_positive read_integer piece_of fit_of lines_of unheld_whole rows row_at kind_at form_at turn_at may_end sort_of sort_at bits_at whole_at pass_line_of first_fit read_line wild_bits number_outside some_outside outside_line checks_in_order over_limit twice_of may_run forbidden opened adding parts_from parts_of some_of checked_line join_of finish step_line at_end read_lines read_frame
second_read = refl

-- ---- the pairing

-- what holds of each number below n
abbrev pub Upto : (ℕ → Type 0) → ℕ → Type 0
Upto P zero = Unit {0}
Upto P (suc n) = Upto P n × P n

pub below : (P : ℕ → Type 0) (n : ℕ) → Upto P n → (k : ℕ) → k < n → P k
below P zero u k h = absurd (not-suc-le-zero h)
below P (suc n) u k h = go (below P n u.0 k) (ℕ_discrete k n)
  where
    go : (k < n → P k) → Dec (k ≡ n) → P k
    go f (yes d) = subst P (sym d) u.1
    go f (no d) = f (omega arith)

abbrev pub pairs : Shuffle 10
pairs =
    record {
      to = λ k. get_or numbers_in_second k 0;
      from = λ k. get_or numbers_in_first k 0;
      to_in =
          below (λ k. get_or numbers_in_second k 0 < 10) 10
          ((((((((((tt, omega arith), omega arith), omega arith), omega arith), omega arith), omega arith), omega arith), omega arith), omega arith), omega arith);
      from_in =
          below (λ k. get_or numbers_in_first k 0 < 10) 10
          ((((((((((tt, omega arith), omega arith), omega arith), omega arith), omega arith), omega arith), omega arith), omega arith), omega arith), omega arith);
      from_to_holds =
          below (λ k. get_or numbers_in_first (get_or numbers_in_second k 0) 0 ≡ k) 10
          ((((((((((tt, refl), refl), refl), refl), refl), refl), refl), refl), refl), refl);
      to_from =
          below (λ k. get_or numbers_in_second (get_or numbers_in_first k 0) 0 ≡ k) 10
          ((((((((((tt, refl), refl), refl), refl), refl), refl), refl), refl), refl), refl);
    }

pub same_lines : (k : ℕ) → k < 10 → corner_line second_frame (pairs.to k) ≡ corner_line first_frame k
unfolding kind_at bits_at whole_at pass_line_of opened adding parts_from parts_of
same_lines =
    below (λ k. corner_line second_frame (pairs.to k) ≡ corner_line first_frame k) 10
    ((((((((((tt, refl), refl), refl), refl), refl), refl), refl), refl), refl), refl)

-- no shade in either
pub same_shades : SameShades pairs first_frame second_frame
unfolding shade_of shaded shades_of kind_at bits_at whole_at pass_line_of opened adding parts_from parts_of
same_shades =
    below (λ k. corner_shade second_frame (pairs.to k) ≡ corner_shade first_frame k) 10
    ((((((((((tt, refl), refl), refl), refl), refl), refl), refl), refl), refl), refl)

unfoldable pub same : SameButOrder first_frame second_frame
unfolding kind_at bits_at whole_at pass_line_of opened adding parts_from parts_of
same = record { opening = refl; count = refl; pairs = pairs; same_line = same_lines; labels = refl; patched = refl; second = refl; shades = same_shades; passes = refl }
