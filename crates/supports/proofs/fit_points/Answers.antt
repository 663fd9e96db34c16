-- `supports::fit_points` meets its contract: by the fit and its four residuals. Assumes nothing.
use mathlib.Core.Path.{refl, ◌∙◌}
use Prim.Native.Nat.{ℕ}
use lib.Ieee.{nan}
use Rattle.std.proofs.Common.{rules}
use Rattle.elimination.specs.Tables.{table}
use Rattle.elimination.proofs.Made.{counted}
use Rattle.homography.specs.Normalize.{point}
use Rattle.passes.specs.Local.{residual_of}
use Rattle.supports.proofs.Fitted.{points_none, points_told}
use Rattle.supports.proofs.fit_points.Goals as goal

pub returns-in_err-h : goal.returns-in_err-h
returns-in_err-h c = c.from_residual.ensures ∙ points_none _ _ c.in_err-h.ensures refl

pub returns : goal.returns
unfolding table
returns c =
    c.then_some.ensures
    ∙ points_told _ _ c.in_ok-h.ensures refl
    (counted _ _ (λ (i : ℕ). residual_of c.in_ok-h.h (point c.args.cells i) (point c.args.corners i)) c.from_fn-residuals.result nan 4 c.from_fn-residuals.ensures.items (λ j y q l k. search rules))
    c.all_finite.ensures
