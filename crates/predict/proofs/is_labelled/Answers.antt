-- `predict::is_labelled` meets its contract, by the label. Assumes nothing.
use mathlib.Core.Path.{sym, ◌∙◌}
use Rattle.predict.proofs.Laws.{seen_if}
use Rattle.predict.proofs.is_labelled.Goals as goal

pub returns : goal.returns
returns c = λ corner. c.is_some.ensures ∙ seen_if corner _ _ _ (sym c.label_at.ensures)
