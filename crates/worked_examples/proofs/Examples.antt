-- Every row of the table of worked examples holds: each is computed, the rows of cells walked by the written places of the sheet. Assumes nothing.
use Prim.Native.Nat.{ℕ}
use mathlib.Core.Path.{◌≡◌, refl, ap, ◌∙◌, subst}
use mathlib.Core.List.{List, [], ◌∷◌}
use lib.ListN.{length}
use lib.Ieee.{Float, binary32, of_bits, to_bits, add, sub, mul, div, lt, le}
use lib.Ieee.Bits.{of_bits-fits}
use Rattle.std.proofs.Common.{Result, Ok}
use Rattle.refusal.specs.declared.Refusal.{Refusal}
use Rattle.binary32.specs.Sqrt.{units_of, Answers, reaches, climb, rooted}
use Rattle.binary32.proofs.Exists.{answered}
use Rattle.candidates.specs.Choice.{choose_unambiguous, choose_with_floor}
use Rattle.positions_policy.specs.Edge.{in_band, expected_length, mean_pitch}
use Rattle.sheet.specs.Cells.{on_sheet, place_of, cell_of}
use Rattle.sheet.specs.Words.{label_of_number, number_of_label, bit_of, label_of, hole_of, ambiguous_of, word_of}
use Rattle.sheet.specs.declared.Cell.{Cell}
use Rattle.labels.specs.Labelled.{passing, names_corner, is_labelled}
use Rattle.labels.specs.Box.{widened, lower_of, higher_of}
use Rattle.passes.specs.Fill.{cells_of, fill_cells}
use Rattle.passes.specs.Local.{local_region, row_among, column_among, local_cells}
use Rattle.written_places.specs.Written.{word_in, told, label_in, put_in, put}
use Rattle.written_places.proofs.Passes.{fill_cells_so, local_cells_so}
use Rattle.worked_examples.specs.Table.{Right, Claims, root, f32, at, labelled, table}
use Rattle.worked_examples.proofs.Walks.{with_labels_in, labelled_so, labelled_rises}

-- a root that is computed meets the relation too
holds : (x r : ℕ) → rooted (f32 x) ≡ Ok (f32 r) → Claims (root x r)
holds x r e = (subst (λ (a : Result Float Refusal). Answers (f32 x) a) e (answered (f32 x) (of_bits-fits binary32 x)), e)

-- ---- the labels (0,0) and (2,0)

abbrev two_cells : List Cell
two_cells = at 0 0 ∷ at 2 0 ∷ []

fill_two : length (fill_cells (labelled two_cells)) ≡ 9
unfolding with_labels_in put put_in word_in told label_in on_sheet cell_of place_of label_of_number number_of_label bit_of label_of hole_of ambiguous_of word_of names_corner is_labelled passing widened lower_of higher_of cells_of
fill_two = ap (λ (sheet : List ℕ). length (fill_cells sheet)) (labelled_so two_cells) ∙ ap length (fill_cells_so (with_labels_in [] 0 two_cells) (labelled_rises two_cells))

local_two : length (local_cells 1 (labelled two_cells)) ≡ 11
unfolding with_labels_in put put_in word_in told label_in on_sheet cell_of place_of label_of_number number_of_label bit_of label_of hole_of ambiguous_of word_of names_corner is_labelled passing widened lower_of higher_of cells_of local_region row_among column_among
local_two = ap (λ (sheet : List ℕ). length (local_cells 1 sheet)) (labelled_so two_cells) ∙ ap length (local_cells_so 1 (with_labels_in [] 0 two_cells) (labelled_rises two_cells))

-- ---- the table

pub right : Right table
unfolding rooted climb reaches units_of of_bits to_bits add sub mul div lt le choose_unambiguous choose_with_floor in_band expected_length mean_pitch
right = (
  holds 0x4080_0000 0x4000_0000 refl,
  (
    holds 0x4000_0000 0x3fb5_04f3 refl,
    (
      holds 0x0000_0001 0x1a35_04f3 refl,
      (refl, (refl, (refl, (refl, (refl, (refl, (refl, (refl, (refl, (λ size. refl, (fill_two, (local_two, tt)))))))))))),
    ),
  ),
)
