-- `Predicting::add_neighbour` meets its contract, from those of what it calls; both cells are near the sheet. Assumes nothing.
use mathlib.Core.Path.{◌∙◌}
use Rattle.sheet.proofs.Laws.{on_near, difference_within}
use Rattle.predict.specs.Predict.{with_neighbour}
use Rattle.predict.proofs.Predicting.add_neighbour.Goals as goal

pub difference-requires : goal.difference-requires
difference-requires c =
    (on_near _ c.args.self.now.on, on_near _ c.requires)

pub weigh-requires : goal.weigh-requires
weigh-requires c =
    rw c.difference.ensures (difference_within _ _ (on_near _ c.args.self.now.on) (on_near _ c.requires))

pub returns : goal.returns
unfolding with_neighbour
returns c =
    c.weigh.ensures
    ∙ rw (c.difference.ensures, c.step_vector-i_step.ensures, c.step_vector-j_step.ensures)
