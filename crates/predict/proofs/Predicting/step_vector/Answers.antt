-- `Predicting::step_vector` meets its contract, from those of what it calls. Assumes nothing.
use mathlib.Core.Path.{◌∙◌}
use Rattle.predict.specs.Predict.{step_vector}
use Rattle.predict.proofs.Predicting.step_vector.Goals as goal

pub returns : goal.returns
unfolding step_vector
returns c = c.vector_of.ensures ∙ rw (c.axis_of.ensures, c.local_step_at-step.ensures)
