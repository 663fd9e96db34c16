-- `homography::homography_from_4pt` meets its contract. Assumes nothing.
use mathlib.Core.Path.{◌∙◌}
use Rattle.homography.proofs.Fitting.{answered_by, fit_first, fit_second, fit_third, fit_last}
use Rattle.homography.proofs.homography_from_4pt.Goals as goal

pub returns-in_err-s : goal.returns-in_err-s
returns-in_err-s c = c.from_residual.ensures ∙ fit_first _ _ (answered_by c.normalize_points4.ensures c.in_err-s.ensures.value)

pub returns-in_err-t : goal.returns-in_err-t
returns-in_err-t c =
    c.from_residual-in_err-t.ensures ∙ fit_second _ _ _ (answered_by c.normalize_points4.ensures c.in_ok-s.ensures.value) (answered_by c.normalize_points4-2.ensures c.in_err-t.ensures.value)

pub returns-in_err-x : goal.returns-in_err-x
returns-in_err-x c =
    c.from_residual-in_err-x.ensures
    ∙ fit_third _ _ _ (answered_by c.normalize_points4.ensures c.in_ok-s.ensures.value) _ (answered_by c.normalize_points4-2.ensures c.in_ok-t.ensures.value) _ c.equations.ensures
    (answered_by c.solve.ensures c.in_err-x.ensures.value)

pub returns : goal.returns
returns c =
    fit_last _ _ _ (answered_by c.normalize_points4.ensures c.in_ok-s.ensures.value) _ (answered_by c.normalize_points4-2.ensures c.in_ok-t.ensures.value) _ c.equations.ensures _ _ _
    (answered_by c.solve.ensures c.in_ok-x.ensures.value) c.undo.ensures c.scaled.ensures
