-- `Predicting::sum_neighbours` meets its contract: the cells of the square, one after the other. Assumes nothing.
use mathlib.Core.Path.{◌≡◌, ◌∙◌}
use Rattle.std.proofs.Common.{rules}
use Rattle.std.proofs.lemmas.Iterator.{YieldsList-from_slice}
use Rattle.std.proofs.lemmas.Iterator.Consumers.{fold_from_yields_List}
use Rattle.sheet.specs.Cells.{moved}
use Rattle.sheet.specs.Seeing.{seen_in}
use Rattle.sheet.specs.declared.Offset.{Offset}
use Rattle.predict.specs.Predict.{neighbour_offsets, with_cell, no_sums, sums_of}
use Rattle.predict.specs.declared.Sums.{Sums}
use Rattle.predict.proofs.Laws.{sums_all}
use Rattle.predict.proofs.Predicting.sum_neighbours.Goals as goal

pub returns : goal.returns
unfolding no_sums sums_of neighbour_offsets
returns c =
    let a = c.args in
    let d = c.default.ensures in
    let none : c.default.result ≡ no_sums = λ t. record { x = d.0 t; y = d.1.0 t; w = d.1.1 t } in
    fold_from_yields_List _ (λ (s : Sums) (o : Offset). with_cell (seen_in a.self.now.seeing) a.self.now.grid a.self.now.c s (moved a.self.now.c o)) _ c.fold.result c.fold.ensures.ran
    (YieldsList-from_slice neighbour_offsets c.iter.ensures.rest) (λ s x b q k. search rules)
    ∙ rw none (sums_all (seen_in a.self.now.seeing) a.self.now.c a.self.now.grid _)
