-- Local's run is a history: the cells listed at a round's start are unlabelled until their own turn, and clearing a cell's marks keeps every
-- label; and local counts its new cells. Assumes nothing.
use Rattle.std.specs.Prelude.{Option, None, Ok, Err}
use mathlib.Core.Path.{◌≡◌, refl}
use mathlib.Core.Bool.{Bool, true, false, cond}
use mathlib.Core.List.{List, [], ◌∷◌}
use Prim.Native.Nat.{ℕ, ◌≤◌}
use native.Mathlib.Omega.{arith}
use lib.ListN.{length, length-append}
use lib.Ieee.{Float, binary32, of_bits, lt}
use Rattle.sheet.specs.Cells.{OnSheet, place_of, cell_of}
use Rattle.sheet.specs.Words.{attached, marks_cleared}
use Rattle.sheet.specs.Corners.{Corners, seen_of}
use Rattle.sheet.proofs.Laws.{cell_on_lem, place_cell}
use Rattle.sheet.proofs.Words.{cleared_changes}
use Rattle.labels.specs.Labelled.{label_count, labelled_places, SameLabels}
use Rattle.labels.specs.Box.{box_of}
use Rattle.labels.proofs.Labelled.{cleared_keeps}
use Rattle.positions_policy.specs.declared.Tolerances.{Tolerances}
use Rattle.arguments.specs.declared.Settings.{Settings}
use Rattle.arguments.specs.declared.LocalExtensionParams.{LocalExtensionParams}
use Rattle.extension_common.specs.declared.NotAttached.{NotAttached}
use Rattle.extension_common.specs.TryCell.{TryCellResult}
use Rattle.passes.specs.Grow.{tolerances_of, no_counts}
use Rattle.passes.specs.Local.{depth_of, local_region, local_cells, supports_of, LocalFit, none, fitted, local_fit, LocalState, worst, with_residuals, with_unmatched, gate_of, local_with, local_try, local_at, local_visit, local_pass, local_from, local_limit, local_run}
use Rattle.passes.specs.History.{Attaches, History, begun, marked, attaches}
use Rattle.passes.specs.declared.Counts.{Counts}
use Rattle.passes.proofs.Rounds.{rounds_keep}
use Rattle.invariants.specs.Kept.{Sound}
use Rattle.invariants.proofs.Extended.{extended_attached}
use Rattle.invariants.proofs.History.{history_extended}
use Rattle.invariants.proofs.Waiting.{Waiting, waiting_none, cells_wait, waiting_same, first_on, others_wait, waiting_attached, found_attaches}

-- in a round, with these cells still to be tried
pub record Trying (cs : Corners) (tol : Tolerances) (first ps : List ℕ) (s : LocalState) : Type 0 where
  pub history : History cs tol first s.made s.sheet
  pub counted : s.counts.attached ≡ length s.made
  pub waiting : Waiting s.sheet ps

pub local_cells_listed : (depth : ℕ) (sheet : List ℕ) → Waiting sheet (local_cells depth sheet)
unfolding local_cells
local_cells_listed depth sheet = cells_wait (local_region depth (labelled_places sheet) (box_of sheet)) sheet

module _ {cs : Corners} {first : List ℕ} (few : cs.count ≤ 1024) (begins : Sound cs.count first) where
  pub sound_tried : {tol : Tolerances} {ps : List ℕ} {s : LocalState} → Trying cs tol first ps s → Sound cs.count s.sheet
  sound_tried g = (history_extended few begins g.history).sound

  -- ---- one cell

  module _ {tol : Tolerances} (p : ℕ) (ps : List ℕ) (s : LocalState) (g : Trying cs tol first (p ∷ ps) s) where
    -- nothing was attached, whatever was counted or recorded
    trying_next : (n : Counts) (largest : Option Float) (unmatched : ℕ) → n.attached ≡ s.counts.attached
        → Trying cs tol first ps (record { sheet = s.sheet; made = s.made; counts = n; largest = largest; unmatched = unmatched })
    trying_next n largest unmatched e = record { history = g.history; counted = rw e g.counted; waiting = others_wait g.waiting }

    -- what is found at the cell
    trying_with : (r : TryCellResult) → ((k : ℕ) → r ≡ Ok k → Attaches cs tol s.sheet p k) → (rs : List Float) (m : ℕ)
        → Trying cs tol first ps (local_with (cell_of p) r (with_unmatched m (with_residuals rs s)))
    unfolding local_with
    trying_with (Err NotAttached.NoCandidates) may rs m = trying_next _ _ _ refl
    trying_with (Err NotAttached.Ambiguous) may rs m = trying_next _ _ _ refl
    trying_with (Err NotAttached.EdgeRejected) may rs m = trying_next _ _ _ refl
    trying_with (Ok k) may rs m =
        let a = may k refl in
        let now = attached s.sheet (cell_of p) k in
        let on : OnSheet (cell_of p) = cell_on_lem p (first_on g.waiting) in
        let long : 16384 ≤ length now = (extended_attached (sound_tried g) few a).sound.long in
        let same : SameLabels now (marks_cleared now (cell_of p)) = cleared_keeps now (cell_of p) long on in
        record {
          history = rw (place_cell p (first_on g.waiting)) (marked (attaches p k g.history a) (cleared_changes now (cell_of p) long on).same_length same);
          counted = omega (arith, g.counted, length-append s.made (place_of (cell_of p) ∷ []));
          waiting = waiting_same (waiting_attached g.waiting (sound_tried g) few a) same;
        }

  -- ---- the run

  module _ (set : Settings) (params : LocalExtensionParams) where
    pub trying_visit : (p : ℕ) (ps : List ℕ) (s : LocalState) → Trying cs (tolerances_of set) first (p ∷ ps) s → Trying cs (tolerances_of set) first ps (local_visit cs set params (cell_of p) s)
    unfolding local_visit local_at local_try
    trying_visit p ps s g = go (local_fit (seen_of cs.corner s.sheet) (supports_of (cell_of p) s.sheet))
      where
        gate : (t : Bool) (rs : List Float) (after : LocalState) → Trying cs (tolerances_of set) first ps after → Trying cs (tolerances_of set) first ps (cond t (with_residuals rs s) after)
        gate true rs after w = trying_next p ps s g _ _ _ refl
        gate false rs after w = w

        go : (fit : LocalFit) → Trying cs (tolerances_of set) first ps (local_at cs set params (cell_of p) fit s)
        go none = trying_next p ps s g _ _ _ refl
        go (fitted h rs) =
            gate (lt (gate_of set params) (worst (of_bits binary32 0) rs)) rs _
            (trying_with p ps s g _ (λ k e. found_attaches g.waiting cs (tolerances_of set) _ _ k e) rs _)

    -- the whole run: a round lists its cells, and each waits for its turn
    pub trying_begins : (s : LocalState) → Trying cs (tolerances_of set) first [] s
        → Trying cs (tolerances_of set) first (local_cells (depth_of params) s.sheet) s
    trying_begins s g = record { history = g.history; counted = g.counted; waiting = local_cells_listed (depth_of params) s.sheet }

    pub local_history : Trying cs (tolerances_of set) first [] (local_run cs set params first).state
    unfolding local_run local_from
    local_history =
        rounds_keep (local_pass cs set params) (Trying cs (tolerances_of set) first) trying_begins trying_visit
        (local_limit (label_count first) params.max_iters)
        (record { state = record { sheet = first; made = []; counts = no_counts; largest = None; unmatched = 0 }; rounds = 0 })
        (record { history = begun; counted = refl; waiting = waiting_none first })
