-- Residuals that none is above: they stay so when more are recorded. Assumes nothing.
use mathlib.Core.Path.{◌≡◌, refl}
use mathlib.Core.Bool.{Bool, true, false, cond}
use mathlib.Core.List.{List, [], ◌∷◌}
use Prim.Native.Nat.{ℕ}
use lib.Ieee.{Float, lt}
use Rattle.std.specs.Prelude.{Option, None, Some}
use Rattle.float_order.proofs.Order.{lt_irrefl, lt_trans}
use Rattle.sheet.specs.Corners.{Corners}
use Rattle.sheet.specs.Cells.{cell_of}
use Rattle.sheet.specs.declared.Cell.{Cell}
use Rattle.sheet.specs.declared.Position.{Position}
use Rattle.labels.proofs.Below.{no_both}
use Rattle.arguments.specs.declared.Settings.{Settings}
use Rattle.arguments.specs.declared.LocalExtensionParams.{LocalExtensionParams}
use Rattle.passes.specs.Local.{LocalFit, recorded, recorded_all}
use Rattle.remembered.specs.Remembered.{Covered, covered_none, covered_more, CoveredBy, nothing_yet, by, IdleFit, no_fit, above, Mapped, within, Found, idle, no_candidates, predicted, ambiguous, KnownAt, entry_of, Remembered}
use Rattle.remembered.specs.declared.Finding.{Finding}
use Rattle.remembered.specs.declared.Known.{Known}
use Rattle.remembered.specs.declared.Memory.{Memory}

-- ---- one residual more

-- what was not above the largest is not above a larger one
not_above : (m r x : Float) → lt m x ≡ false → lt (cond (lt m r) r m) x ≡ false
not_above m r x h = go (lt m r) refl
  where
    go : (t : Bool) → lt m r ≡ t → lt (cond t r m) x ≡ false
    go false e = h
    go true e = under (lt r x) refl
      where
        under : (u : Bool) → lt r x ≡ u → u ≡ false
        under false f = refl
        under true f = absurd (no_both (lt m x) (lt_trans m r x e f) h)

-- nor is the residual itself
not_own : (m r : Float) → lt (cond (lt m r) r m) r ≡ false
not_own m r = go (lt m r) refl
  where
    go : (t : Bool) → lt m r ≡ t → lt (cond t r m) r ≡ false
    go true e = lt_irrefl r
    go false e = e

covered_step : (m r : Float) {rs : List Float} → Covered m rs → Covered (cond (lt m r) r m) rs
covered_step m r covered_none = covered_none
covered_step m r (covered_more h g) = covered_more (not_above m r _ h) (covered_step m r g)

by_step : (l : Option Float) (r : Float) {rs : List Float} → CoveredBy l rs → CoveredBy (recorded l r) rs
unfolding recorded
by_step None r nothing_yet = by covered_none
by_step (Some m) r (by g) = by (covered_step m r g)

-- ---- some more

pub by_all : (l : Option Float) (more : List Float) {rs : List Float} → CoveredBy l rs → CoveredBy (recorded_all l more) rs
unfolding recorded_all
by_all l [] g = g
by_all l (r ∷ more) g = by_all (recorded l r) more (by_step l r g)

-- ---- recorded residuals are not above the largest

-- some that are not, and then one that is not
put_on : (l : Option Float) {r : Float} {rs : List Float} → CoveredBy l (r ∷ []) → CoveredBy l rs → CoveredBy l (r ∷ rs)
put_on (Some m) (by (covered_more h covered_none)) (by g) = by (covered_more h g)
put_on None {r = r} {rs = rs} x'' _ = elim x'' [ ]

own : (l : Option Float) (r : Float) → CoveredBy (recorded l r) (r ∷ [])
unfolding recorded
own None r = by (covered_more (lt_irrefl r) covered_none)
own (Some m) r = by (covered_more (not_own m r) covered_none)

pub covers : (l : Option Float) (rs : List Float) → CoveredBy (recorded_all l rs) rs
unfolding recorded_all
covers None [] = nothing_yet
covers (Some m) [] = by covered_none
covers l (r ∷ rs) = put_on (recorded_all (recorded l r) rs) (by_all (recorded l r) rs (own l r)) (covers (recorded l r) rs)

-- and recording them again changes nothing
pub covered_same : (l : Option Float) {rs : List Float} → CoveredBy l rs → recorded_all l rs ≡ l
unfolding recorded_all recorded
covered_same None nothing_yet = refl
covered_same (Some m) (by covered_none) = refl
covered_same (Some m) (by (covered_more h g)) = rw h (covered_same (Some m) (by g))

-- ---- what is known stays known

module _ {set : Settings} {p : LocalExtensionParams} {l : Option Float} (rs : List Float) where
  idle_all : {f : LocalFit} → IdleFit set p l f → IdleFit set p (recorded_all l rs) f
  idle_all no_fit = no_fit
  idle_all (above h g) = above h (by_all l rs g)

  mapped_all : {c : Cell} {f : LocalFit} {at : Position} → Mapped set p l c f at → Mapped set p (recorded_all l rs) c f at
  mapped_all (within h g e) = within h (by_all l rs g) e

module _ {cs : Corners} {set : Settings} {p : LocalExtensionParams} {l : Option Float} {sheet : List ℕ} (rs : List Float) where
  found_all : {c : Cell} {f : Finding} → Found cs set p l sheet c f → Found cs set p (recorded_all l rs) sheet c f
  found_all (idle f) = idle (idle_all rs f)
  found_all (no_candidates m) = no_candidates (record { at = m.at; mapped = mapped_all rs m.mapped; missed = m.missed; none_over = m.none_over })
  found_all (predicted m) = predicted (mapped_all rs m)
  found_all (ambiguous u) = ambiguous (record { mapped = mapped_all rs u.mapped; undecided = u.undecided; last = u.last; no_shades = u.no_shades })

  pub larger : {memory : Memory} → Remembered cs set p l sheet memory → Remembered cs set p (recorded_all l rs) sheet memory
  larger {memory} m = record { at = λ a h. go (cell_of a) (entry_of memory a) (m.at a h); bounded = m.bounded }
    where
      go : (c : Cell) (known : Option Known) → KnownAt cs set p l sheet c known → KnownAt cs set p (recorded_all l rs) sheet c known
      go c None h = tt
      go c (Some k) h = (h.0, found_all h.1)
