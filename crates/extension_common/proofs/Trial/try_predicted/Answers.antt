-- `Trial::try_predicted` meets its contract, with a prediction and without. Assumes nothing.
use mathlib.Core.Path.{ap, ◌∙◌}
use Rattle.std.proofs.lemmas.Result.{err_from_is_err_and}
use Rattle.std.specs.Prelude.{Option}
use Rattle.sheet.specs.declared.Cell.{Cell}
use Rattle.sheet.specs.declared.Corner.{Corner}
use Rattle.predict.specs.Predict.{prediction_of}
use Rattle.extension_common.specs.TryCell.{tried_from}
use Rattle.extension_common.proofs.Laws.{tried_without, tried_there}
use Rattle.extension_common.proofs.Trial.try_predicted.Goals as goal

pub returns-in_err-at : goal.returns-in_err-at
returns-in_err-at c =
    let p = err_from_is_err_and c.from_residual.result c.from_residual.ensures.1 in
    rw (p.1, p.2) (tried_without _ _ _ _ _ _ _ c.in_err-at.ensures.value ∙ ap (tried_from _ _ _ _ _) (c.predict_from_neighbours.ensures ∙ ap (λ (seen : Cell → Option Corner). prediction_of seen c.args.grid c.args.self.now.c) c.seeing.ensures))

pub returns : goal.returns
returns c = tried_there _ _ _ _ _ _ _ c.in_ok-at.ensures.value c.try_attach_at_cell.ensures ∙ ap (tried_from _ _ _ _ _) (c.predict_from_neighbours.ensures ∙ ap (λ (seen : Cell → Option Corner). prediction_of seen c.args.grid c.args.self.now.c) c.seeing.ensures)
