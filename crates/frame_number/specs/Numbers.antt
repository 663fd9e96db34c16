-- The refusals of a line's numbers: that of each, and which of them some number has, number by number. Definitions only.
use Rattle.std.specs.Prelude.{◌||◌, List, map, ℕ, eqb, Option}
use Rattle.refusal.specs.declared.Refusal.{Refusal}
use Rattle.frame_line.specs.Held.{number_or_0}
use Rattle.frame_number.specs.declared.NumberRefusals.{NumberRefusals}

-- the refusal of each number, 0 where it has none
abbrev pub numbers_of : List (Option Refusal) → List ℕ
numbers_of each = map number_or_0 each

-- with the refusal of one number more, 0 where it has none
abbrev pub with_number : NumberRefusals → ℕ → NumberRefusals
with_number f r =
    record {
      each = f.each;
      malformed = eqb 1 r || f.malformed;
      out_of_range = eqb 3 r || f.out_of_range;
      off_sheet = eqb 4 r || f.off_sheet;
      unknown_corner = eqb 5 r || f.unknown_corner;
    }
