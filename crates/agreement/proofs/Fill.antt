-- Fill's run is the same on both frames, through the pairing, where its factor is above 1: paired sheets, and the same new cells and rounds.
-- Assumes nothing.
use mathlib.Core.Path.{◌≡◌, refl, ap}
use mathlib.Core.Bool.{true}
use mathlib.Core.List.{List, [], ◌∷◌, ◌++◌}
use Prim.Native.Nat.{ℕ, ◌<◌, ◌≤◌}
use native.Mathlib.Omega.{arith}
use lib.Dec.{T}
use lib.ListN.{length}
use lib.Ieee.{lt}
use lib.Ieee.Scale.{finite}
use Rattle.sheet.specs.Cells.{OnSheet, place_of, cell_of}
use Rattle.sheet.specs.Corners.{CornerLists, corner_of, seen_of, Given}
use Rattle.sheet.specs.Pairing.{Shuffle, PairedCorners, PairedSheets}
use Rattle.sheet.specs.declared.Cell.{Cell}
use Rattle.sheet.proofs.Laws.{cell_on_lem}
use Rattle.sheet.proofs.Pairing.{paired_attached}
use Rattle.labels.specs.Labelled.{label_count}
use Rattle.labels.specs.Box.{box_of}
use Rattle.labels.proofs.Pairing.{paired_box, paired_count}
use Rattle.candidates.specs.Candidates.{squared_radius}
use Rattle.candidates.proofs.Radius.{search_radius}
use Rattle.predict.specs.Predict.{prediction_of}
use Rattle.std.specs.Prelude.{Option, Some, None, Ok, Err}
use Rattle.sheet.specs.declared.Position.{Position}
use Rattle.predict.proofs.Laws.{prediction_paired}
use Rattle.arguments.specs.Shades.{corners_of, PairedShades}
use Rattle.arguments.specs.Accepted.{SettingsInside, FillInside}
use Rattle.arguments.specs.declared.Settings.{Settings}
use Rattle.arguments.specs.declared.FillParams.{FillParams}
use Rattle.extension_common.specs.TryCell.{TryCellResult, try_at}
use Rattle.extension_common.proofs.Laws.{attachable}
use Rattle.passes.specs.Grow.{tolerances_of}
use Rattle.passes.specs.Rounds.{rounds_from}
use Rattle.passes.specs.Fill.{box_and_strips, fill_cells, FillState, fill_search, fill_with, fill_at, fill_visit, fill_pass, fill_from, fill_limit, fill_run}
use Rattle.passes.specs.History.{begun}
use Rattle.passes.proofs.Rounds.{Alike, SameRounds, rounds_same}
use Rattle.invariants.specs.Kept.{Sound}
use Rattle.invariants.specs.Calls.{Standing}
use Rattle.invariants.proofs.Waiting.{waiting_none, first_on}
use Rattle.invariants.proofs.Fill.{Filling, sound_then, filling_visit, filling_begins}
use Rattle.invariants.proofs.Run.{standing_sound, sound_standing}
use Rattle.binary32.specs.Numbers.{one}
use Rattle.agreement.proofs.Try.{paired_result, try_paired}
use Rattle.agreement.proofs.Cells.{cells_same}

-- where both runs stand: paired sheets, and the same new cells
pub record SameFill {n : ℕ} (s : Shuffle n) (a a' : FillState) : Type 0 where
  pub sheet : PairedSheets s a.sheet a'.sheet
  pub made : a'.made ≡ a.made

-- the same cells are listed
fill_cells_same : {n : ℕ} {s : Shuffle n} {sheet sheet' : List ℕ} → PairedSheets s sheet sheet' → fill_cells sheet' ≡ fill_cells sheet
unfolding fill_cells
fill_cells_same {sheet} {sheet'} paired = cells_same paired (box_and_strips (box_of sheet)) (box_and_strips (box_of sheet')) (ap box_and_strips (paired_box paired))

-- ---- one cell

with_same : {n : ℕ} {s : Shuffle n} {a a' : FillState} → SameFill s a a' → 16384 ≤ length a.sheet → (c : Cell) → OnSheet c → n ≤ 1024
    → (r : TryCellResult) → ((k : ℕ) → r ≡ Ok k → k < n) → SameFill s (fill_with c r a) (fill_with c (paired_result s.to r) a')
unfolding fill_with paired_result
with_same same long c on few (Err e) given = same
with_same {s = s} same long c on few (Ok k) given =
    let h = given k refl in
    record {
      sheet = paired_attached same.sheet c long on k (omega arith) (omega (arith, s.to_in k h));
      made = ap (λ (l : List ℕ). l ++ (place_of c ∷ [])) same.made;
    }

-- ---- the run

module _ (l l' : CornerLists) (corners : PairedCorners l l') (shades shades' : List ℕ) (kinds : PairedShades corners.pairs shades shades')
    (long : length l.xs ≤ length shades) (few : length l.xs ≤ 1024) (set : Settings) (params : FillParams) (inside : SettingsInside set) (numbers : FillInside params) (above : lt one params.attach_ambiguity_factor ≡ true) where
  finite_radius : T (finite (squared_radius (fill_search set params).search_r))
  unfolding fill_search
  finite_radius = search_radius params.attach_search_rel set.grid.cell_size numbers.search inside.cell_size

  factor_above : lt one (fill_search set params).ambiguity_factor ≡ true
  unfolding fill_search
  factor_above = above

  module _ (a a' : FillState) (same : SameFill corners.pairs a a') (given : Given (length l.xs) a.sheet) (c : Cell) (on : OnSheet c) where
    at_same : (at : Option Position) → SameFill corners.pairs (fill_at (corners_of l shades) set params c at a) (fill_at (corners_of l' shades') set params c at a')
    unfolding fill_at
    at_same None = same
    at_same (Some at) =
        rw (try_paired l l' corners shades shades' kinds long a.sheet a'.sheet same.sheet given (tolerances_of set) (fill_search set params) c at finite_radius factor_above)
        (with_same same given.long c on few (try_at (corners_of l shades) a.sheet (tolerances_of set) (fill_search set params) c at)
        (λ k h. (attachable (corners_of l shades) a.sheet (tolerances_of set) (fill_search set params) c at k h).given))

    visit_same : SameFill corners.pairs (fill_visit (corners_of l shades) set params c a) (fill_visit (corners_of l' shades') set params c a')
    unfolding fill_visit
    visit_same = rw (prediction_paired corners same.sheet given set.grid c) (at_same (prediction_of (seen_of (corner_of l) a.sheet) set.grid c))

  module _ (first : List ℕ) (begins : Standing l first) where
    sound : Sound (length l.xs) first
    sound = standing_sound begins

    -- where both runs stand, with these cells still to come: in the first run each waits for its turn
    abbrev Both : List ℕ → FillState → FillState → Type 0
    Both ps a a' = Filling (corners_of l shades) (tolerances_of set) first ps a × SameFill corners.pairs a a'

    alike : Alike (fill_pass (corners_of l shades) set params) (fill_pass (corners_of l' shades') set params) Both
    alike =
        record {
          cells = λ a a' g. fill_cells_same g.1.sheet;
          begins = λ a a' g. (filling_begins few sound set params a g.0, g.1);
          keeps = λ p ps a a' g. (
            filling_visit few sound set params p ps a g.0,
            visit_same a a' g.1 (sound_standing begins (sound_then few sound g.0)).given (cell_of p) (cell_on_lem p (first_on g.0.waiting)),
          );
          made = λ a a' g. ap length g.1.made;
        }

    -- the whole run
    pub fill_same : (first' : List ℕ) → PairedSheets corners.pairs first first'
        → SameRounds (SameFill corners.pairs) (fill_run (corners_of l shades) set params first) (fill_run (corners_of l' shades') set params first')
    unfolding fill_run fill_from
    fill_same first' paired = rw (paired_count paired) (record { state = both.state.1; rounds = both.rounds })
      where
        start : FillState
        start = record { sheet = first; made = [] }

        start' : FillState
        start' = record { sheet = first'; made = [] }

        both : SameRounds (Both [])
            (rounds_from (fill_pass (corners_of l shades) set params) (fill_limit (label_count first) params.max_iters) (record { state = start; rounds = 0 }))
            (rounds_from (fill_pass (corners_of l' shades') set params) (fill_limit (label_count first) params.max_iters) (record { state = start'; rounds = 0 }))
        both =
            rounds_same Both alike (fill_limit (label_count first) params.max_iters)
            (record { state = start; rounds = 0 }) (record { state = start'; rounds = 0 })
            (record { state = (record { history = begun; waiting = waiting_none first }, record { sheet = paired; made = refl }); rounds = refl })
