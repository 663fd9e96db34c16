-- What a visit of a cell does by what is known of the cell. Assumes nothing.
use Rattle.std.specs.Prelude.{Option, Err}
use mathlib.Core.Path.{◌≡◌, refl, ap, ◌∙◌}
use mathlib.Core.Bool.{true, false}
use mathlib.Core.List.{List}
use Prim.Native.Nat.{ℕ}
use native.Mathlib.Omega.{arith}
use lib.Ieee.{Float, binary32, of_bits, lt}
use Rattle.sheet.specs.Corners.{Corners, seen_of}
use Rattle.sheet.specs.declared.Cell.{Cell}
use Rattle.sheet.specs.declared.Position.{Position}
use Rattle.homography.specs.Fit.{applied}
use Rattle.arguments.specs.declared.Settings.{Settings}
use Rattle.arguments.specs.declared.LocalExtensionParams.{LocalExtensionParams}
use Rattle.extension_common.specs.TryCell.{TryCellResult, try_at}
use Rattle.extension_common.specs.declared.NotAttached.{NotAttached}
use Rattle.extension_common.proofs.Laws.{unmatched_bare}
use Rattle.passes.specs.Grow.{tolerances_of}
use Rattle.passes.specs.Local.{LocalState, supports_of, cell_point, LocalFit, none, fitted, local_fit, worst, with_residuals, with_unmatched, local_search, gate_of, local_with, local_try, local_at, local_visit}
use Rattle.remembered.specs.Remembered.{fit_at, CoveredBy, IdleFit, no_fit, above, Mapped, within, Found, idle, no_candidates, predicted, ambiguous}
use Rattle.remembered.specs.declared.Finding.{Finding}
use Rattle.remembered.proofs.Larger.{covered_same}

-- ---- by the fit and the gate

module _ (cs : Corners) (set : Settings) (p : LocalExtensionParams) (c : Cell) (s : LocalState) (f : LocalFit) (e : f ≡ local_fit (seen_of cs.corner s.sheet) (supports_of c s.sheet)) where
  pub visit_none : f ≡ none → local_visit cs set p c s ≡ s
  unfolding local_visit local_at
  visit_none g = rw (← e, g)

  module _ (h rs : List Float) (g : f ≡ fitted h rs) where
    pub visit_gated : lt (gate_of set p) (worst (of_bits binary32 0) rs) ≡ true → local_visit cs set p c s ≡ with_residuals rs s
    unfolding local_visit local_at
    visit_gated k = rw (← e, g, k)

    pub visit_fitted : lt (gate_of set p) (worst (of_bits binary32 0) rs) ≡ false
        → local_visit cs set p c s ≡ local_try cs set p c (applied h (cell_point c)) (with_residuals rs s)
    unfolding local_visit local_at
    visit_fitted k = rw (← e, g, k)

-- ---- by what is known

-- residuals that were recorded
same_state : (s : LocalState) {rs : List Float} → CoveredBy s.largest rs → with_residuals rs s ≡ s
same_state s g = ap (λ (l : Option Float). record { sheet = s.sheet; made = s.made; counts = s.counts; largest = l; unmatched = s.unmatched }) (covered_same s.largest g)

module _ (cs : Corners) (set : Settings) (p : LocalExtensionParams) (c : Cell) (s : LocalState) where
  by_idle : (f : LocalFit) → f ≡ fit_at cs s.sheet c → IdleFit set p s.largest f → local_visit cs set p c s ≡ s
  by_idle none e no_fit = visit_none cs set p c s none e refl
  by_idle (fitted h rs) e (above k g) = visit_gated cs set p c s (fitted h rs) e h rs refl k ∙ same_state s g

  by_mapped : (f : LocalFit) {at : Position} → f ≡ fit_at cs s.sheet c → Mapped set p s.largest c f at
      → local_visit cs set p c s ≡ local_try cs set p c at s
  by_mapped (fitted h rs) e (within k g a) =
      visit_fitted cs set p c s (fitted h rs) e h rs refl k
      ∙ rw (a, same_state s g)
  by_mapped none {at = at} e x'' = elim x'' [ ]

  -- where no shade stands none is passed over
  none_over : cs.shades.any ≡ false → (at : Position) → local_try cs set p c at s ≡ local_with c (try_at cs s.sheet (tolerances_of set) (local_search set p) c at) s
  unfolding local_try
  none_over e at =
      ap (λ (n : ℕ). local_with c (try_at cs s.sheet (tolerances_of set) (local_search set p) c at) (with_unmatched n s)) (unmatched_bare cs e s.sheet (local_search set p).search_r c at)
      ∙ ap (λ (n : ℕ). local_with c (try_at cs s.sheet (tolerances_of set) (local_search set p) c at) (record { sheet = s.sheet; made = s.made; counts = s.counts; largest = s.largest; unmatched = n })) (omega arith)

  pub visit_idle : Found cs set p s.largest s.sheet c Finding.Idle → local_visit cs set p c s ≡ s
  visit_idle (idle f) = by_idle (fit_at cs s.sheet c) refl f

  pub visit_predicted : {at : Position} → Found cs set p s.largest s.sheet c (Finding.Predicted at) → local_visit cs set p c s ≡ local_try cs set p c at s
  visit_predicted (predicted m) = by_mapped (fit_at cs s.sheet c) refl m

  pub visit_no_candidates : Found cs set p s.largest s.sheet c Finding.NoCandidates → local_visit cs set p c s ≡ local_with c (Err NotAttached.NoCandidates) s
  visit_no_candidates (no_candidates m) = by_mapped (fit_at cs s.sheet c) refl m.mapped ∙ none_over m.none_over m.at ∙ ap (λ (r : TryCellResult). local_with c r s) m.missed

  pub visit_ambiguous : {at : Position} {limit : Float} → Found cs set p s.largest s.sheet c (Finding.Ambiguous at limit) → local_visit cs set p c s ≡ local_with c (Err NotAttached.Ambiguous) s
  visit_ambiguous (ambiguous u) = by_mapped (fit_at cs s.sheet c) refl u.mapped ∙ none_over u.no_shades _ ∙ ap (λ (r : TryCellResult). local_with c r s) u.undecided
