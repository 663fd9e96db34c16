-- The fit on four supports, as the code answers it (document 01, "Fit"; what it says of it is `local_fit` of crate passes, Local). Definitions only.
use Rattle.std.specs.Prelude.{◌≡◌, cond, List, [], ◌∷◌, ◌<◌, length, Option, None, Some, Float, All}
use Rattle.sizes.specs.Sizes.{place_count}
use Rattle.sheet.specs.declared.Position.{Position}
use Rattle.homography.specs.Normalize.{point}
use Rattle.homography.specs.Fit.{Answer, homography_of}
use Rattle.passes.specs.Local.{residual_of, LocalFit, none, fitted}
use Rattle.binary32.specs.Ranges.{all_finite}
use Rattle.supports.specs.declared.Support.{Support}
use Rattle.supports.specs.declared.SupportFit.{SupportFit}

-- what stands for a fit on the supports
unfoldable pub support_fit_of : LocalFit → Option SupportFit
support_fit_of none = None
support_fit_of (fitted h rs) = Some (record { h = h; residuals = rs })

-- the residuals of four cells and their pictured corners
abbrev pub four_residuals : List Float → List Position → List Position → List Float
four_residuals h cells corners =
    residual_of h (point cells 0) (point corners 0)
    ∷ residual_of h (point cells 1) (point corners 1)
    ∷ residual_of h (point cells 2) (point corners 2)
    ∷ residual_of h (point cells 3) (point corners 3)
    ∷ []

-- the fit on these, if all residuals are finite
unfoldable pub trusted_points : List Position → List Position → Answer → LocalFit
trusted_points cells corners None = none
trusted_points cells corners (Some h) = cond (all_finite (four_residuals h cells corners)) (fitted h (four_residuals h cells corners)) none

unfoldable pub points_fit : List Position → List Position → LocalFit
points_fit cells corners = trusted_points cells corners (homography_of cells corners)

-- four supports that are places of the sheet
pub record Pictured (s : List Support) : Type 0 where
  pub size : length s ≡ 4
  pub below : All (λ x. x.place < place_count) s
