-- `predict::predict_from_neighbours` meets its contract, by whether there is a neighbour. Assumes nothing.
use mathlib.Core.Bool.{not}
use mathlib.Core.Path.{sym, ap, ◌∙◌}
use borrow.Author.Tests.{not-true, not-false}
use Rattle.predict.specs.Predict.{mean_of}
use Rattle.predict.specs.declared.Sums.{Sums}
use Rattle.std.specs.Prelude.{Some}
use Rattle.predict.proofs.Laws.{predicted_none, predicted_some}
use Rattle.predict.proofs.predict_from_neighbours.Goals as goal

pub returns-then-not-has_neighbour : goal.returns-then-not-has_neighbour
returns-then-not-has_neighbour c = sym (predicted_none _ _ _ (sym (c.has_neighbour.ensures _) ∙ not-true _ (ap not c.if-not-has_neighbour.true)))

pub returns : goal.returns
unfolding mean_of
returns c =
    ap (λ (s : Sums). Some (mean_of s)) c.sum_neighbours-sums.ensures
    ∙ sym (predicted_some _ _ _ (sym (c.has_neighbour.ensures _) ∙ not-false _ (ap not c.if-not-has_neighbour.false)))
