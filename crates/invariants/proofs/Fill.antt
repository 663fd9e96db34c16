-- Fill's run is a history: the cells listed at a round's start are unlabelled until their own turn. Assumes nothing.
use mathlib.Core.Path.{◌≡◌, refl}
use mathlib.Core.List.{List, [], ◌∷◌}
use Prim.Native.Nat.{ℕ, ◌≤◌}
use Rattle.sheet.specs.Cells.{cell_of}
use Rattle.sheet.specs.Corners.{Corners, seen_of}
use Rattle.sheet.proofs.Laws.{place_cell}
use Rattle.labels.specs.Labelled.{label_count}
use Rattle.labels.specs.Box.{box_of}
use Rattle.predict.specs.Predict.{prediction_of}
use Rattle.std.specs.Prelude.{Option, Some, None, Ok, Err}
use Rattle.sheet.specs.declared.Position.{Position}
use Rattle.positions_policy.specs.declared.Tolerances.{Tolerances}
use Rattle.arguments.specs.declared.Settings.{Settings}
use Rattle.arguments.specs.declared.FillParams.{FillParams}
use Rattle.extension_common.specs.TryCell.{TryCellResult}
use Rattle.passes.specs.Grow.{tolerances_of}
use Rattle.passes.specs.Fill.{box_and_strips, fill_cells, FillState, fill_with, fill_at, fill_visit, fill_pass, fill_from, fill_limit, fill_run}
use Rattle.passes.specs.History.{Attaches, History, begun, attaches}
use Rattle.passes.proofs.Rounds.{rounds_keep}
use Rattle.invariants.specs.Kept.{Sound}
use Rattle.invariants.proofs.History.{history_extended}
use Rattle.invariants.proofs.Waiting.{Waiting, waiting_none, cells_wait, first_on, waiting_marked, waiting_attached, found_attaches}

-- in a round, with these cells still to be tried
pub record Filling (cs : Corners) (tol : Tolerances) (first ps : List ℕ) (s : FillState) : Type 0 where
  pub history : History cs tol first s.made s.sheet
  pub waiting : Waiting s.sheet ps

pub cells_listed : (sheet : List ℕ) → Waiting sheet (fill_cells sheet)
unfolding fill_cells
cells_listed sheet = cells_wait (box_and_strips (box_of sheet)) sheet

module _ {cs : Corners} {first : List ℕ} (few : cs.count ≤ 1024) (begins : Sound cs.count first) where
  pub sound_then : {tol : Tolerances} {ps : List ℕ} {s : FillState} → Filling cs tol first ps s → Sound cs.count s.sheet
  sound_then g = (history_extended few begins g.history).sound

  filling_with : {tol : Tolerances} (p : ℕ) (ps : List ℕ) (s : FillState) → Filling cs tol first (p ∷ ps) s → (r : TryCellResult)
      → ((k : ℕ) → r ≡ Ok k → Attaches cs tol s.sheet p k) → Filling cs tol first ps (fill_with (cell_of p) r s)
  unfolding fill_with
  filling_with p ps s g (Err e) may = record { history = g.history; waiting = waiting_marked g.waiting (record { same_label = λ q h. refl }) }
  filling_with p ps s g (Ok k) may =
      let a = may k refl in
      record {
        history = rw (place_cell p (first_on g.waiting)) (attaches p k g.history a);
        waiting = waiting_attached g.waiting (sound_then g) few a;
      }

  module _ (set : Settings) (params : FillParams) where
    pub filling_visit : (p : ℕ) (ps : List ℕ) (s : FillState) → Filling cs (tolerances_of set) first (p ∷ ps) s → Filling cs (tolerances_of set) first ps (fill_visit cs set params (cell_of p) s)
    unfolding fill_visit fill_at
    filling_visit p ps s g = go (prediction_of (seen_of cs.corner s.sheet) set.grid (cell_of p))
      where
        go : (at : Option Position) → Filling cs (tolerances_of set) first ps (fill_at cs set params (cell_of p) at s)
        go None = record { history = g.history; waiting = waiting_marked g.waiting (record { same_label = λ q h. refl }) }
        go (Some at) = filling_with p ps s g _ (λ k e. found_attaches g.waiting cs (tolerances_of set) _ at k e)

    -- the whole run: a round lists its cells, and each waits for its turn
    pub filling_begins : (s : FillState) → Filling cs (tolerances_of set) first [] s → Filling cs (tolerances_of set) first (fill_cells s.sheet) s
    filling_begins s g = record { history = g.history; waiting = cells_listed s.sheet }

    pub fill_history : History cs (tolerances_of set) first (fill_run cs set params first).state.made (fill_run cs set params first).state.sheet
    unfolding fill_run fill_from
    fill_history =
        (rounds_keep (fill_pass cs set params) (Filling cs (tolerances_of set) first) filling_begins filling_visit
        (fill_limit (label_count first) params.max_iters)
        (record { state = record { sheet = first; made = [] }; rounds = 0 }) (record { history = begun; waiting = waiting_none first })).history
