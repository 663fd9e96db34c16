-- What bare grow means, and which full line means what it meant before (document 02, 2/14), both computed. Assumes nothing.
use mathlib.Core.Path.{refl}
use mathlib.Core.List.{[], ◌∷◌}
use lib.Ieee.{of_bits, of_int, div}
use Rattle.binary32.specs.Hex.{digit_value, read_digits}
use Rattle.line_form.specs.Integers.{digits_after, read_positive, read_integer}
use Rattle.line_form.specs.Forms.{bits, piece_of, fit_of}
use Rattle.frame_line.specs.Table.{rows, row_at, kind_at, form_at}
use Rattle.frame_line.specs.Lines.{bare_grow_holds, grow, bits_at, whole_at, pass_line_of, first_fit, read_line}
use Rattle.frame.specs.Frame.{adding}
use Rattle.frame.specs.ReadFrame.{full_of, pass_of}
use Rattle.frame_laws.specs.BareGrow.{BareGrow}

pub bare_grow_means : BareGrow
unfolding of_bits of_int div digit_value read_digits digits_after read_positive read_integer piece_of fit_of rows row_at kind_at form_at bits_at whole_at pass_line_of first_fit read_line adding full_of pass_of
bare_grow_means =
    record {
      bare = record { said = record { row = 6; numbers = [] }; pass_line_holds = bare_grow_holds; read = refl; adds = λ p. refl; means = refl };
      old =
          record {
            said = record { row = 7; numbers = bits 0x3eb3_3333 ∷ bits 0x3fc0_0000 ∷ bits 0x4000_0000 ∷ [] };
            pass_line_holds = grow 0x3eb3_3333 0x3fc0_0000 0x4000_0000;
            read = refl;
            adds = λ p. refl;
            means = refl;
          };
    }
