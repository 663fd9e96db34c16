-- Supports that have the same pictured corners on two sheets have the same fit. Assumes nothing.
use Rattle.sheet.specs.declared.Corner.{Corner}
use mathlib.Core.Path.{◌≡◌, refl, ap, ap₂, ◌∙◌}
use mathlib.Core.Bool.{cond}
use mathlib.Core.List.{List, [], ◌∷◌, map}
use Prim.Native.Nat.{ℕ}
use lib.Ieee.{Float}
use Rattle.std.specs.Prelude.{Some, None, Option}
use Rattle.sheet.specs.Cells.{cell_of}
use Rattle.sheet.specs.declared.Cell.{Cell}
use Rattle.sheet.specs.declared.Position.{Position}
use Rattle.homography.specs.Fit.{Answer, homography_of}
use Rattle.passes.specs.Local.{cell_point, pictured_at, residual_of, residuals_of, none, fitted, trusted, local_fit}
use Rattle.binary32.specs.Ranges.{all_finite}

-- the places of a list have the same pictured corners
pub data Alike (seen seen' : Cell → Option Corner) : List ℕ → Type 0 where
  alike_none : Alike seen seen' []
  alike_more : {p : ℕ} {ps : List ℕ} → pictured_at seen' p ≡ pictured_at seen p → Alike seen seen' ps → Alike seen seen' (p ∷ ps)

module _ (seen seen' : Cell → Option Corner) where
  pictures : (ps : List ℕ) → Alike seen seen' ps → map (pictured_at seen') ps ≡ map (pictured_at seen) ps
  pictures [] alike_none = refl
  pictures (p ∷ ps) (alike_more e s) = ap₂ (λ (x : Position) (xs : List Position). x ∷ xs) e (pictures ps s)

  residuals : (h : List Float) (ps : List ℕ) → Alike seen seen' ps → residuals_of seen' h ps ≡ residuals_of seen h ps
  unfolding residuals_of
  residuals h [] alike_none = refl
  residuals h (p ∷ ps) (alike_more e s) = ap₂ (λ (x : Position) (rs : List Float). residual_of h (cell_point (cell_of p)) x ∷ rs) e (residuals h ps s)

  pub fit_alike : (ps : List ℕ) → Alike seen seen' ps → local_fit seen' ps ≡ local_fit seen ps
  unfolding local_fit trusted
  fit_alike ps s =
      ap (λ (m : List Position). trusted seen' ps (homography_of (map (λ p. cell_point (cell_of p)) ps) m)) (pictures ps s)
      ∙ go (homography_of (map (λ p. cell_point (cell_of p)) ps) (map (pictured_at seen) ps))
    where
      go : (a : Answer) → trusted seen' ps a ≡ trusted seen ps a
      go None = refl
      go (Some h) = ap (λ (rs : List Float). cond (all_finite rs) (fitted h rs) none) (residuals h ps s)
