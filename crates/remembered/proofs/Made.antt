-- What comes to be known of a cell by its supports and the fit on them. Assumes nothing.
use mathlib.Core.Path.{◌≡◌, refl, sym, subst}
use mathlib.Core.Bool.{true, false}
use mathlib.Core.List.{List, [], ◌∷◌}
use Prim.Native.Nat.{ℕ, ◌≤◌}
use Rattle.std.specs.List.{AllByRecursion as ByRecursion}
use Rattle.std.proofs.lemmas.List.Elements.{recursion_from_All}
use Rattle.std.specs.Prelude.{Some, Option, Err}
use lib.Ieee.{Float, binary32, of_bits, lt}
use Rattle.sheet.specs.Corners.{Corners}
use Rattle.sheet.specs.declared.Cell.{Cell}
use Rattle.sheet.specs.declared.Position.{Position}
use Rattle.homography.specs.Fit.{applied}
use Rattle.arguments.specs.declared.Settings.{Settings}
use Rattle.arguments.specs.declared.LocalExtensionParams.{LocalExtensionParams}
use Rattle.candidates.specs.Candidates.{last_distance}
use Rattle.extension_common.specs.TryCell.{gathered, try_at}
use Rattle.extension_common.specs.declared.NotAttached.{NotAttached}
use Rattle.passes.specs.Grow.{tolerances_of}
use Rattle.passes.specs.Local.{reach_of, supports_of, cell_point, LocalFit, none, fitted, worst, recorded_all, local_search, gate_of}
use Rattle.supports.specs.Nearest.{places_of}
use Rattle.supports.specs.declared.Support.{Support}
use Rattle.supports.proofs.Nearest.{nth, Reached}
use Rattle.remembered.specs.Remembered.{fit_at, Near, near_none, near_more, SupportsWithin, IdleFit, no_fit, above, Mapped, within, Found, idle, no_candidates, predicted, ambiguous, KnownAt}
use Rattle.remembered.specs.declared.Finding.{Finding}
use Rattle.remembered.proofs.Larger.{covers}

near_all : (c : Cell) (r : ℕ) (l : List ℕ) → ByRecursion (λ (q : ℕ). reach_of c q ≤ r) l → Near c r l
near_all c r [] h = near_none
near_all c r (p ∷ ps) h = near_more h.0 (near_all c r ps h.1)

module _ (cs : Corners) (set : Settings) (p : LocalExtensionParams) (l : Option Float) (sheet : List ℕ) (c : Cell) (near : List Support) (four : places_of near ≡ supports_of c sheet) (far : Reached c near) where
  reached : SupportsWithin (nth near 3).reach sheet c
  reached = subst (Near c (nth near 3).reach) four (near_all c (nth near 3).reach (places_of near) (recursion_from_All (λ (q : ℕ). reach_of c q ≤ (nth near 3).reach) (places_of near) far))

  -- there is no fit
  pub made_none : fit_at cs sheet c ≡ none → KnownAt cs set p l sheet c (Some (record { reach = (nth near 3).reach; finding = Finding.Idle }))
  made_none e = (reached, idle (subst (IdleFit set p l) (sym e) no_fit))

  pub made_above : (h rs : List Float) → fit_at cs sheet c ≡ fitted h rs → lt (gate_of set p) (worst (of_bits binary32 0) rs) ≡ true
      → KnownAt cs set p (recorded_all l rs) sheet c (Some (record { reach = (nth near 3).reach; finding = Finding.Idle }))
  made_above h rs e k = (reached, idle (subst (IdleFit set p (recorded_all l rs)) (sym e) (above k (covers l rs))))

  pub made_within : (h rs : List Float) → fit_at cs sheet c ≡ fitted h rs → lt (gate_of set p) (worst (of_bits binary32 0) rs) ≡ false
      → KnownAt cs set p (recorded_all l rs) sheet c (Some (record { reach = (nth near 3).reach; finding = Finding.Predicted (applied h (cell_point c)) }))
  made_within h rs e k =
      (reached, predicted (subst (λ (f : LocalFit). Mapped set p (recorded_all l rs) c f (applied h (cell_point c))) (sym e) (within k (covers l rs) refl)))

-- no candidate at the prediction, and no shade stands
pub made_no_candidates : {cs : Corners} {set : Settings} {p : LocalExtensionParams} {l : Option Float} {sheet : List ℕ} {c : Cell} {at : Position}
    → Found cs set p l sheet c (Finding.Predicted at) → try_at cs sheet (tolerances_of set) (local_search set p) c at ≡ Err NotAttached.NoCandidates
    → cs.shades.any ≡ false → Found cs set p l sheet c Finding.NoCandidates
made_no_candidates {at = at} (predicted m) e s = no_candidates (record { at = at; mapped = m; missed = e; none_over = s })

-- an ambiguous choice there
pub made_ambiguous : {cs : Corners} {set : Settings} {p : LocalExtensionParams} {l : Option Float} {sheet : List ℕ} {c : Cell} {at : Position} {limit : Float}
    → Found cs set p l sheet c (Finding.Predicted at) → try_at cs sheet (tolerances_of set) (local_search set p) c at ≡ Err NotAttached.Ambiguous
    → limit ≡ last_distance (gathered cs sheet (local_search set p).search_r c at) → cs.shades.any ≡ false → Found cs set p l sheet c (Finding.Ambiguous at limit)
made_ambiguous (predicted m) e f s = ambiguous (record { mapped = m; undecided = e; last = f; no_shades = s })
