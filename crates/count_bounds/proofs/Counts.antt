-- Each visited cell adds at most one to the counts, so all counts together are no more than the cells visited; and where one is counted, at most all
-- corners are passed over. Assumes nothing.
use mathlib.Core.Path.{◌≡◌, refl, sym, ap, subst}
use mathlib.Core.Bool.{Bool, true, false, cond}
use mathlib.Core.List.{List, [], ◌∷◌}
use Prim.Native.Nat.{ℕ, zero, suc, ◌+◌, ◌*◌, ◌≤◌, max}
use native.Mathlib.Omega.{arith}
use lib.Dec.{T, eqb, ltb}
use lib.ListN.{length, get_or}
use lib.Ieee.{Float, binary32, of_bits, lt}
use Rattle.predict.specs.Predict.{prediction_of, extrapolating}
use Rattle.std.specs.Prelude.{Option, Some, None, Ok, Err}
use Rattle.sheet.specs.Cells.{cell_of}
use Rattle.sheet.specs.Corners.{Corners, seen_of}
use Rattle.sheet.specs.declared.Cell.{Cell}
use Rattle.sheet.specs.declared.Position.{Position}
use Rattle.homography.specs.Fit.{applied}
use Rattle.labels.specs.Labelled.{names_corner, label_count, labelled_places}
use Rattle.labels.specs.Box.{box_of}
use Rattle.labels.proofs.Below.{passing_few}
use Rattle.arguments.specs.declared.Settings.{Settings}
use Rattle.arguments.specs.declared.GrowParams.{GrowParams}
use Rattle.arguments.specs.declared.LocalExtensionParams.{LocalExtensionParams}
use Rattle.extension_common.specs.TryCell.{TryCellResult, unmatched, try_at}
use Rattle.extension_common.specs.declared.NotAttached.{NotAttached}
use Rattle.extension_common.proofs.Laws.{unmatched_few}
use Rattle.passes.specs.declared.Counts.{Counts}
use Rattle.passes.specs.Grow.{no_counts, tolerances_of, GrowState, start_of, search_of, grow_with, grow_at, grow_visit, grow_from, grow_run}
use Rattle.passes.specs.Fill.{cells_of}
use Rattle.passes.specs.Local.{depth_of, local_cells, supports_of, cell_point, LocalFit, none, fitted, local_fit, LocalState, worst, with_residuals, with_unmatched, local_search, gate_of, local_with, local_try, local_at, local_visit, local_pass, local_all, local_round, LocalRounds, local_from}
use Rattle.passes.proofs.Rounds.{rounds_keep}
use Rattle.invariants.proofs.Unshaded.{with_unmatched_lem}

-- all four counts together
abbrev pub total : Counts → ℕ
total c = c.attached + c.rejected_no_candidate + c.rejected_ambiguous + c.rejected_edge

-- ---- grow

grow_with_lem : (c : Cell) (r : TryCellResult) (s : GrowState) → total (grow_with c r s).counts ≤ total s.counts + 1
unfolding grow_with
grow_with_lem c (Err NotAttached.NoCandidates) s = omega arith
grow_with_lem c (Err NotAttached.Ambiguous) s = omega arith
grow_with_lem c (Err NotAttached.EdgeRejected) s = omega arith
grow_with_lem c (Ok k) s = omega arith

module _ (cs : Corners) (set : Settings) (p : GrowParams) where
  grow_at_lem : (c : Cell) (at : Option Position) (s : GrowState) → total (grow_at cs set p c at s).counts ≤ total s.counts + 1
  unfolding grow_at
  grow_at_lem c None s = omega arith
  grow_at_lem c (Some at) s = grow_with_lem c _ s

  grow_visit_lem : (c : Cell) (s : GrowState) → total (grow_visit cs set p c s).counts ≤ total s.counts + 1
  unfolding grow_visit
  grow_visit_lem c s = grow_at_lem c _ s

  grow_from_lem : (m head : ℕ) (s : GrowState) → total (grow_from cs set p m head s).counts ≤ total s.counts + m
  unfolding grow_from
  grow_from_lem zero head s = omega arith
  grow_from_lem (suc m) head s = go (ltb head (length s.queued)) (grow_from_lem m (head + 1) next)
    where
      next : GrowState
      next = grow_visit cs set p (cell_of (get_or s.queued head 0)) s

      go : (t : Bool) → total (grow_from cs set p m (head + 1) next).counts ≤ total next.counts + m
          → total (cond t (grow_from cs set p m (head + 1) next) s).counts ≤ total s.counts + suc m
      go true w = omega (arith, w, grow_visit_lem (cell_of (get_or s.queued head 0)) s)
      go false w = omega arith

  pub grow_counts : (sheet : List ℕ) → total (grow_run cs set p sheet).counts ≤ 4 * cs.count
  unfolding grow_run start_of
  grow_counts sheet = omega (arith, grow_from_lem (4 * cs.count) 0 (start_of sheet))

-- ---- local

-- just one where the cell is tried
local_one_more : (c : Cell) (r : TryCellResult) (s : LocalState) → total (local_with c r s).counts ≡ total s.counts + 1
unfolding local_with
local_one_more c (Err NotAttached.NoCandidates) s = omega arith
local_one_more c (Err NotAttached.Ambiguous) s = omega arith
local_one_more c (Err NotAttached.EdgeRejected) s = omega arith
local_one_more c (Ok k) s = omega arith

pub cells_few : (depth : ℕ) (sheet : List ℕ) → length (local_cells depth sheet) ≤ 16384
unfolding local_cells cells_of
cells_few depth sheet = passing_few _ 16384

module _ (cs : Corners) (set : Settings) (p : LocalExtensionParams) where
  local_at_lem : (c : Cell) (fit : LocalFit) (s : LocalState) → total (local_at cs set p c fit s).counts ≤ total s.counts + 1
  unfolding local_at local_try
  local_at_lem c none s = omega arith
  local_at_lem c (fitted h rs) s = go (lt (gate_of set p) (worst (of_bits binary32 0) rs)) _ (local_one_more c _ (with_unmatched _ (with_residuals rs s)))
    where
      go : (t : Bool) (after : LocalState) → total after.counts ≡ total s.counts + 1 → total (cond t (with_residuals rs s) after).counts ≤ total s.counts + 1
      go true after w = omega arith
      go false after w = omega (arith, w)

  local_visit_lem : (c : Cell) (s : LocalState) → total (local_visit cs set p c s).counts ≤ total s.counts + 1
  unfolding local_visit
  local_visit_lem c s = local_at_lem c _ s

  local_all_lem : (ps : List ℕ) (s : LocalState) → total (local_all cs set p ps s).counts ≤ total s.counts + length ps
  unfolding local_all
  local_all_lem [] s = omega arith
  local_all_lem (q ∷ qs) s = omega (arith, local_all_lem qs (local_visit cs set p (cell_of q) s), local_visit_lem (cell_of q) s)

  local_round_lem : (s : LocalState) → total (local_round cs set p s).counts ≤ total s.counts + 16384
  unfolding local_round
  local_round_lem s = omega (arith, local_all_lem (local_cells (depth_of p) s.sheet) s, cells_few (depth_of p) s.sheet)

  pub record Turned (m : ℕ) (r after : LocalRounds) : Type 0 where
    pub counts : total after.state.counts ≤ total r.state.counts + m * 16384
    pub rounds : after.rounds ≤ r.rounds + m

  pub local_from_lem : (m : ℕ) (r : LocalRounds) → Turned m r (local_from cs set p m r)
  unfolding local_from
  local_from_lem zero r = record { counts = omega arith; rounds = omega arith }
  local_from_lem (suc m) r = go (eqb (length next.state.made) (length r.state.made)) (local_from_lem m next)
    where
      next : LocalRounds
      next = record { state = local_round cs set p r.state; rounds = r.rounds + 1 }

      go : (t : Bool) → Turned m next (local_from cs set p m next) → Turned (suc m) r (cond t next (local_from cs set p m next))
      go true w = record { counts = omega (arith, local_round_lem r.state); rounds = omega arith }
      go false w = record { counts = omega (arith, local_round_lem r.state, w.counts); rounds = omega (arith, w.rounds) }

-- ---- what local passes over

-- where it stands: no more than all corners for each cell counted
abbrev pub FewPassed : LocalState → Type 0
FewPassed s = s.unmatched ≤ 1024 * total s.counts

module _ (cs : Corners) (few : cs.count ≤ 1024) (set : Settings) (p : LocalExtensionParams) where
  passed_try : (c : Cell) (at : Position) (s : LocalState) → FewPassed s → FewPassed (local_try cs set p c at s)
  unfolding local_try
  passed_try c at s w =
      let m = unmatched cs s.sheet (local_search set p).search_r c at in
      let r = try_at cs s.sheet (tolerances_of set) (local_search set p) c at in
      omega (arith, w, few, with_unmatched_lem c r (with_unmatched m s), local_one_more c r (with_unmatched m s), unmatched_few cs s.sheet (local_search set p).search_r c at)

  passed_at : (c : Cell) (fit : LocalFit) (s : LocalState) → FewPassed s → FewPassed (local_at cs set p c fit s)
  unfolding local_at
  passed_at c none s w = w
  passed_at c (fitted h rs) s w = go (lt (gate_of set p) (worst (of_bits binary32 0) rs)) _ (passed_try c (applied h (cell_point c)) (with_residuals rs s) w)
    where
      go : (t : Bool) (after : LocalState) → FewPassed after → FewPassed (cond t (with_residuals rs s) after)
      go true after v = w
      go false after v = v

  pub passed_visit : (c : Cell) (s : LocalState) → FewPassed s → FewPassed (local_visit cs set p c s)
  unfolding local_visit
  passed_visit c s w = passed_at c (local_fit (seen_of cs.corner s.sheet) (supports_of c s.sheet)) s w

  pub passed_from : (m : ℕ) (r : LocalRounds) → FewPassed r.state → FewPassed (local_from cs set p m r).state
  unfolding local_from
  passed_from m r w = rounds_keep (local_pass cs set p) (λ qs s. FewPassed s) (λ s v. v) (λ q qs s v. passed_visit (cell_of q) s v) m r w
