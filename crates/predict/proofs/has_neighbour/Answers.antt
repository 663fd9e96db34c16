-- `predict::has_neighbour` meets its contract: a test of each cell of the square. Assumes nothing.
use mathlib.Core.Path.{◌∙◌}
use Rattle.std.proofs.Common.{rules}
use Rattle.std.proofs.lemmas.Iterator.{YieldsList-from_slice}
use Rattle.std.proofs.lemmas.Iterator.Search.{any_from_yields_List}
use Rattle.sheet.specs.Cells.{moved}
use Rattle.sheet.specs.Corners.{seen_of}
use Rattle.sheet.specs.declared.Offset.{Offset}
use Rattle.predict.specs.Predict.{neighbour_offsets, labelled_on}
use Rattle.predict.proofs.Laws.{any_all}
use Rattle.predict.proofs.has_neighbour.Goals as goal

pub returns : goal.returns
unfolding neighbour_offsets
returns c =
    let a = c.args in
    λ corner.
    any_from_yields_List (λ (o : Offset). labelled_on (seen_of corner a.sheet.now) a.c a.side (moved a.c o)) _ _ c.any.result c.any.ensures.ran (YieldsList-from_slice neighbour_offsets c.iter.ensures.rest) (λ x b q k. search rules)
    ∙ any_all (seen_of corner a.sheet.now) a.c a.side
