-- What a call that is not refused says is small: its counts, its rounds, its residual, which is finite, and what it passed over. Assumes nothing.
use Rattle.std.specs.Prelude.{Option, None, Some, Ok, Err}
use Rattle.sheet.specs.declared.Corner.{Corner}
use mathlib.Core.Path.{◌≡◌, refl, sym, ap, subst}
use mathlib.Core.Bool.{Bool, true, false, cond, ◌&&◌}
use mathlib.Core.List.{List, [], ◌∷◌}
use Prim.Native.Nat.{ℕ, zero, suc, ◌+◌, ◌*◌, ◌≤◌, max}
use native.Mathlib.Omega.{arith}
use lib.Dec.{T, eqb, ltb}
use lib.ListN.{length, get_or}
use lib.Ieee.{Float, binary32, fits, of_bits, add, sub, mul, lt}
use lib.Ieee.Fits.{add-fits}
use Rattle.std.specs.Prelude.{Some, None, Option}
use Rattle.binary32.specs.Ranges.{is_finite, all_finite}
use Rattle.binary32.specs.Sqrt.{sqrt_or_nan}
use Rattle.binary32.proofs.Exists.{sqrt_fits}
use Rattle.homography.specs.Fit.{Answer, homography_of}
use Rattle.sheet.specs.Cells.{cell_of}
use Rattle.sheet.specs.Corners.{Corners, seen_of, squared_distance}
use Rattle.sheet.specs.declared.Cell.{Cell}
use Rattle.labels.specs.Labelled.{is_labelled, labelled_places, label_count}
use Rattle.labels.proofs.Below.{both, passing_few}
use Rattle.arguments.specs.Shades.{corners_of}
use Rattle.arguments.specs.Accepted.{PassInside}
use Rattle.arguments.specs.declared.Settings.{Settings}
use Rattle.arguments.specs.declared.FillParams.{FillParams}
use Rattle.arguments.specs.declared.LocalExtensionParams.{LocalExtensionParams}
use Rattle.extension_common.specs.TryCell.{TryCellResult}
use Rattle.arguments.specs.declared.Pass.{Pass}
use Rattle.passes.specs.declared.Counts.{Counts}
use Rattle.passes.specs.Grow.{no_counts, grow_run, grow_after}
use Rattle.passes.specs.Fill.{FillState, fill_round, FillRounds, fill_from, fill_limit, fill_run, fill_after}
use Rattle.passes.specs.Local.{depth_of, local_cells, supports_of, cell_point, pictured_at, residual_of, residuals_of, LocalFit, none, fitted, trusted, local_fit, LocalState, recorded, recorded_all, worst, with_residuals, with_unmatched, gate_of, local_with, local_try, local_at, local_visit, local_all, local_round, LocalRounds, local_from, local_limit, local_run, unmatched_if, local_after}
use Rattle.invariants.specs.Calls.{after_pass, after_call, attached_count}
use Rattle.invariants.proofs.Run.{call_ran}
use Rattle.count_bounds.specs.Bounds.{FewCounts, FiniteFloat, FiniteResidual, FewUnmatched, Small, small_grow, small_fill, small_local, SmallAnswers}
use Rattle.count_bounds.proofs.Counts.{total, grow_counts, Turned, local_from_lem, passed_from}

-- ---- fill's rounds

module _ (cs : Corners) (set : Settings) (p : FillParams) where
  fill_from_lem : (m : ℕ) (r : FillRounds) → (fill_from cs set p m r).rounds ≤ r.rounds + m
  unfolding fill_from
  fill_from_lem zero r = omega arith
  fill_from_lem (suc m) r = go (eqb (length next.state.made) (length r.state.made)) (fill_from_lem m next)
    where
      next : FillRounds
      next = record { state = fill_round cs set p r.state; rounds = r.rounds + 1 }

      go : (t : Bool) → (fill_from cs set p m next).rounds ≤ next.rounds + m → (cond t next (fill_from cs set p m next)).rounds ≤ r.rounds + suc m
      go true w = omega arith
      go false w = omega (arith, w)

-- ---- residuals

-- some residuals, each finite
abbrev Finites : List Float → Type 0
Finites [] = Unit {0}
Finites (x ∷ xs) = FiniteFloat x × Finites xs

module _ (seen : Cell → Option Corner) (h : List Float) where
  residual_fits : (p : ℕ) → T (fits binary32 (residual_of h (cell_point (cell_of p)) (pictured_at seen p)))
  unfolding residual_of squared_distance
  residual_fits p = sqrt_fits _ (add-fits binary32 _ _)

  residuals_finite : (ps : List ℕ) → all_finite (residuals_of seen h ps) ≡ true → Finites (residuals_of seen h ps)
  unfolding all_finite residuals_of
  residuals_finite [] e = tt
  residuals_finite (p ∷ ps) e =
      let w = both _ _ e in
      (record { finite = w.0; fit = residual_fits p }, residuals_finite ps w.1)

none_fitted : {h rs : List Float} → none ≡ fitted h rs → ⊥
none_fitted e = let z : ◌≡◌ {A = ℕ} 0 1 = cc in omega arith

-- the fit of a cell's supports, if it is trusted, has finite residuals
trusted_finite : (seen : Cell → Option Corner) (ps : List ℕ) (a : Answer) (h rs : List Float) → trusted seen ps a ≡ fitted h rs → Finites rs
unfolding trusted
trusted_finite seen ps None h rs e = absurd (none_fitted e)
trusted_finite seen ps (Some g) h rs e = go (all_finite (residuals_of seen g ps)) refl e
  where
    go : (t : Bool) → all_finite (residuals_of seen g ps) ≡ t → cond t (fitted g (residuals_of seen g ps)) none ≡ fitted h rs → Finites rs
    go true f q = let same : residuals_of seen g ps ≡ rs = cc in subst Finites same (residuals_finite seen g ps f)
    go false f q = absurd (none_fitted q)

recorded_finite : (l : Option Float) (x : Float) → FiniteResidual l → FiniteFloat x → FiniteResidual (recorded l x)
unfolding recorded
recorded_finite None x w f = f
recorded_finite (Some m) x w f = go (lt m x)
  where
    go : (t : Bool) → FiniteFloat (cond t x m)
    go true = f
    go false = w

all_finite_lem : (l : Option Float) (rs : List Float) → FiniteResidual l → Finites rs → FiniteResidual (recorded_all l rs)
unfolding recorded_all
all_finite_lem l [] w fs = w
all_finite_lem l (r ∷ rs) w fs = all_finite_lem (recorded l r) rs (recorded_finite l r w fs.0) fs.1

with_largest : (c : Cell) (r : TryCellResult) (s : LocalState) → (local_with c r s).largest ≡ s.largest
unfolding local_with
with_largest c (Err e) s = refl
with_largest c (Ok k) s = refl

module _ (cs : Corners) (set : Settings) (p : LocalExtensionParams) where
  finite_at : (c : Cell) (fit : LocalFit) (s : LocalState) → ((h rs : List Float) → fit ≡ fitted h rs → Finites rs) → FiniteResidual s.largest
      → FiniteResidual (local_at cs set p c fit s).largest
  unfolding local_at local_try
  finite_at c none s f w = w
  finite_at c (fitted h rs) s f w = go (lt (gate_of set p) (worst (of_bits binary32 0) rs)) _ (with_largest c _ (with_unmatched _ (with_residuals rs s)))
    where
      go : (t : Bool) (after : LocalState) → after.largest ≡ recorded_all s.largest rs → FiniteResidual (cond t (with_residuals rs s) after).largest
      go true after e = all_finite_lem s.largest rs w (f h rs refl)
      go false after e = subst FiniteResidual (sym e) (all_finite_lem s.largest rs w (f h rs refl))

  finite_visit : (c : Cell) (s : LocalState) → FiniteResidual s.largest → FiniteResidual (local_visit cs set p c s).largest
  unfolding local_visit local_fit
  finite_visit c s w = finite_at c _ s (λ h rs e. trusted_finite _ _ _ h rs e) w

  finite_all : (ps : List ℕ) (s : LocalState) → FiniteResidual s.largest → FiniteResidual (local_all cs set p ps s).largest
  unfolding local_all
  finite_all [] s w = w
  finite_all (q ∷ qs) s w = finite_all qs (local_visit cs set p (cell_of q) s) (finite_visit (cell_of q) s w)

  finite_round : (s : LocalState) → FiniteResidual s.largest → FiniteResidual (local_round cs set p s).largest
  unfolding local_round
  finite_round s w = finite_all (local_cells (depth_of p) s.sheet) s w

  finite_from : (m : ℕ) (r : LocalRounds) → FiniteResidual r.state.largest → FiniteResidual (local_from cs set p m r).state.largest
  unfolding local_from
  finite_from zero r w = w
  finite_from (suc m) r w = go (eqb (length next.state.made) (length r.state.made)) (finite_from m next (finite_round r.state w))
    where
      next : LocalRounds
      next = record { state = local_round cs set p r.state; rounds = r.rounds + 1 }

      go : (t : Bool) → FiniteResidual (local_from cs set p m next).state.largest → FiniteResidual (cond t next (local_from cs set p m next)).state.largest
      go true v = finite_round r.state w
      go false v = v

-- ---- each pass

few_counts : (m n : ℕ) (c : Counts) → total c ≤ n → n ≤ m → FewCounts m c
few_counts m n c t l = record { attached = omega (arith, t, l); no_candidate = omega (arith, t, l); ambiguous = omega (arith, t, l); edge = omega (arith, t, l) }

limit_few : (n limit : ℕ) → limit ≤ 64 → fill_limit n limit ≤ 64
unfolding fill_limit
limit_few zero limit l = omega arith
limit_few (suc n) limit l = omega arith

local_limit_few : (n limit : ℕ) → limit ≤ 64 → local_limit n limit ≤ 64
unfolding local_limit
local_limit_few n limit l = go (ltb n 4)
  where
    go : (t : Bool) → cond t 0 limit ≤ 64
    go true = omega arith
    go false = l

-- what was passed over, at most 1,024 corners for each cell counted
few_unmatched : (any : Bool) (n counted : ℕ) → n ≤ 1024 * counted → counted ≤ 1048576 → FewUnmatched 1073741824 (unmatched_if any n)
unfolding unmatched_if
few_unmatched true n counted w l = omega (arith, w, l)
few_unmatched false n counted w l = tt

-- What a call that is not refused says is small.
pub small : SmallAnswers
unfolding grow_after fill_after local_after fill_run local_run label_count labelled_places
small l sheet c w = go c.pass w.pass_inside (let r = call_ran l sheet c w in omega (arith, r.counted, r.extended.count, passing_few (λ p. is_labelled (get_or (after_call l sheet c).sheet p 0)) 16384))
  where
    cs : Corners
    cs = corners_of l c.shades

    set : Settings
    set = c.settings

    go : (p : Pass) → PassInside p → attached_count (after_pass l c.shades sheet set p).answer ≤ 16384 → Small (after_pass l c.shades sheet set p).answer
    go (Pass.Grow p) i a = small_grow {s = (grow_after cs set p sheet).answer} (few_counts 1048576 (4 * cs.count) _ (grow_counts cs set p sheet) (omega (arith, w.few)))
    go (Pass.Fill p) i a =
        let first : FillRounds = record { state = record { sheet = sheet; made = [] }; rounds = 0 } in
        let m = fill_limit (label_count sheet) p.max_iters in
        small_fill {s = (fill_after cs set p sheet).answer} (omega (arith, a)) (omega (arith, fill_from_lem cs set p m first, limit_few (label_count sheet) p.max_iters i.rounds))
    go (Pass.Local p) i a =
        let first : LocalRounds = record { state = record { sheet = sheet; made = []; counts = no_counts; largest = None; unmatched = 0 }; rounds = 0 } in
        let m = local_limit (label_count sheet) p.max_iters in
        let t = local_from_lem cs set p m first in
        let k = local_limit_few (label_count sheet) p.max_iters i.rounds in
        small_local {s = (local_after cs set p sheet).answer} (few_counts 1048576 (m * 16384) _ (omega (arith, t.counts)) (omega (arith, k))) (omega (arith, t.rounds, k))
        (finite_from cs set p m first tt)
        (few_unmatched cs.shades.any _ _ (passed_from cs w.few set p m first (omega arith)) (omega (arith, t.counts, k)))
