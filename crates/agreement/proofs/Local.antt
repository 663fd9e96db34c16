-- Local's run is the same on both frames, through the pairing, where its factor is above 1: paired sheets, and the same new cells, counts,
-- rounds, largest residual and corners passed over. Assumes nothing.
use Rattle.std.specs.Prelude.{Option, None, Ok, Err}
use mathlib.Core.Path.{◌≡◌, refl, sym, ap, ap₂, subst}
use mathlib.Core.Bool.{Bool, true, false, cond}
use mathlib.Core.List.{List, [], ◌∷◌, ◌++◌}
use Prim.Native.Nat.{ℕ, ◌+◌, ◌<◌, ◌≤◌}
use native.Mathlib.Omega.{arith}
use lib.Dec.{T}
use lib.ListN.{length, take}
use lib.Ieee.{Float, binary32, of_bits, lt}
use lib.Ieee.Scale.{finite}
use Rattle.sheet.specs.Cells.{OnSheet, place_of, cell_of}
use Rattle.sheet.specs.Words.{attached}
use Rattle.sheet.specs.Corners.{CornerLists, seen_of, Given}
use Rattle.sheet.specs.Pairing.{Shuffle, PairedCorners, PairedSheets}
use Rattle.sheet.specs.declared.Cell.{Cell}
use Rattle.sheet.specs.declared.Position.{Position}
use Rattle.sheet.proofs.Laws.{cell_on_lem}
use Rattle.sheet.proofs.Words.{attached_changes}
use Rattle.sheet.proofs.Pairing.{paired_attached, paired_cleared, seen_paired}
use Rattle.labels.specs.Labelled.{labelled_places, label_count}
use Rattle.labels.specs.Box.{box_of}
use Rattle.labels.proofs.Pairing.{paired_places, paired_box, paired_count}
use Rattle.homography.specs.Fit.{applied}
use Rattle.candidates.specs.Candidates.{squared_radius}
use Rattle.candidates.proofs.Radius.{search_radius}
use Rattle.arguments.specs.Shades.{corners_of, PairedShades}
use Rattle.arguments.specs.Accepted.{SettingsInside, LocalInside}
use Rattle.arguments.specs.declared.Settings.{Settings}
use Rattle.arguments.specs.declared.LocalExtensionParams.{LocalExtensionParams}
use Rattle.extension_common.specs.TryCell.{TryCellResult, try_at}
use Rattle.extension_common.proofs.Laws.{attachable}
use Rattle.passes.specs.Counting.{no_counts}
use Rattle.passes.specs.Rounds.{rounds_from}
use Rattle.passes.specs.Grow.{tolerances_of}
use Rattle.passes.specs.Local.{depth_of, local_region, local_cells, by_reach, supports_of, cell_point, LocalFit, none, fitted, local_fit, LocalState, worst, recorded_all, with_residuals, with_unmatched, local_search, gate_of, local_with, local_try, local_at, local_visit, local_pass, local_from, local_limit, local_run}
use Rattle.passes.specs.History.{begun}
use Rattle.passes.proofs.Rounds.{Alike, SameRounds, rounds_same}
use Rattle.invariants.specs.Kept.{Sound}
use Rattle.invariants.specs.Calls.{Standing}
use Rattle.invariants.proofs.Waiting.{waiting_none, first_on}
use Rattle.invariants.proofs.Local.{Trying, sound_tried, trying_visit, trying_begins}
use Rattle.invariants.proofs.Run.{standing_sound, sound_standing}
use Rattle.binary32.specs.Numbers.{one}
use Rattle.agreement.proofs.Try.{paired_result, unmatched_paired, try_paired}
use Rattle.agreement.proofs.Cells.{cells_same}

-- where both runs stand: paired sheets, and the same new cells, counts, largest residual and corners passed over
pub record SameLocal {n : ℕ} (s : Shuffle n) (a a' : LocalState) : Type 0 where
  pub sheet : PairedSheets s a.sheet a'.sheet
  pub made : a'.made ≡ a.made
  pub counts : a'.counts ≡ a.counts
  pub largest : a'.largest ≡ a.largest
  pub unmatched : a'.unmatched ≡ a.unmatched

-- ---- cells and supports

module _ {n : ℕ} {s : Shuffle n} {sheet sheet' : List ℕ} (paired : PairedSheets s sheet sheet') where
  -- the same cells are listed
  local_cells_same : (depth : ℕ) → local_cells depth sheet' ≡ local_cells depth sheet
  unfolding local_cells
  local_cells_same depth =
      cells_same paired (local_region depth (labelled_places sheet) (box_of sheet)) (local_region depth (labelled_places sheet') (box_of sheet'))
      (ap₂ (local_region depth) (paired_places paired) (paired_box paired))

  -- each cell has the same supports
  supports_same : (c : Cell) → supports_of c sheet' ≡ supports_of c sheet
  unfolding supports_of
  supports_same c = ap (λ (ps : List ℕ). take 4 (by_reach c ps)) (paired_places paired)

-- ---- one cell

-- the same residuals are recorded
recorded_same : {n : ℕ} {s : Shuffle n} {a a' : LocalState} → SameLocal s a a' → (rs : List Float) → SameLocal s (with_residuals rs a) (with_residuals rs a')
recorded_same same rs =
    record {
      sheet = same.sheet;
      made = same.made;
      counts = same.counts;
      largest = ap (λ (m : Option Float). recorded_all m rs) same.largest;
      unmatched = same.unmatched;
    }

-- and as many passed over
passed_same : {n : ℕ} {s : Shuffle n} {a a' : LocalState} → SameLocal s a a' → {m m' : ℕ} → m' ≡ m → SameLocal s (with_unmatched m a) (with_unmatched m' a')
passed_same same e = record { sheet = same.sheet; made = same.made; counts = same.counts; largest = same.largest; unmatched = ap₂ (λ (x y : ℕ). x + y) same.unmatched e }

with_same : {n : ℕ} {s : Shuffle n} {a a' : LocalState} → SameLocal s a a' → 16384 ≤ length a.sheet → (c : Cell) → OnSheet c → n ≤ 1024
    → (r : TryCellResult) → ((k : ℕ) → r ≡ Ok k → k < n) → SameLocal s (local_with c r a) (local_with c (paired_result s.to r) a')
unfolding local_with paired_result
with_same same long c on few (Err e) given = record { sheet = same.sheet; made = same.made; counts = rw same.counts; largest = same.largest; unmatched = same.unmatched }
with_same {s = s} {a = a} same long c on few (Ok k) given =
    let h = given k refl in
    let fits : k < 16383 = omega arith in
    let now : 16384 ≤ length (attached a.sheet c k) = rw (attached_changes a.sheet c long on k fits).same_length long in
    record {
      sheet = paired_cleared (paired_attached same.sheet c long on k fits (omega (arith, s.to_in k h))) c now on;
      made = ap (λ (l : List ℕ). l ++ (place_of c ∷ [])) same.made;
      counts = rw same.counts;
      largest = same.largest;
      unmatched = same.unmatched;
    }

-- ---- the run

module _ (l l' : CornerLists) (corners : PairedCorners l l') (shades shades' : List ℕ) (kinds : PairedShades corners.pairs shades shades')
    (long : length l.xs ≤ length shades) (few : length l.xs ≤ 1024) (set : Settings) (params : LocalExtensionParams) (inside : SettingsInside set) (numbers : LocalInside params) (above : lt one params.ambiguity_factor ≡ true) where
  finite_radius : T (finite (squared_radius (local_search set params).search_r))
  unfolding local_search
  finite_radius = search_radius params.search_rel set.grid.cell_size numbers.search inside.cell_size

  factor_above : lt one (local_search set params).ambiguity_factor ≡ true
  unfolding local_search
  factor_above = above

  module _ (a a' : LocalState) (same : SameLocal corners.pairs a a') (given : Given (length l.xs) a.sheet) (c : Cell) (on : OnSheet c) where
    -- the same fit, or none: the supports, and what is seen of them, are the same
    fit_same : local_fit (seen_of (corners_of l' shades').corner a'.sheet) (supports_of c a'.sheet) ≡ local_fit (seen_of (corners_of l shades).corner a.sheet) (supports_of c a.sheet)
    fit_same = ap₂ local_fit (seen_paired corners same.sheet given) (supports_same same.sheet c)

    -- local gathers at the same prediction
    try_same : (at : Position) (rs : List Float)
        → SameLocal corners.pairs (local_try (corners_of l shades) set params c at (with_residuals rs a)) (local_try (corners_of l' shades') set params c at (with_residuals rs a'))
    unfolding local_try
    try_same at rs =
        rw (try_paired l l' corners shades shades' kinds long a.sheet a'.sheet same.sheet given (tolerances_of set) (local_search set params) c at finite_radius factor_above)
        (with_same
        (passed_same (recorded_same same rs) (unmatched_paired l l' corners shades shades' kinds long a.sheet a'.sheet same.sheet given (local_search set params).search_r c at))
        given.long c on few (try_at (corners_of l shades) a.sheet (tolerances_of set) (local_search set params) c at)
        (λ k e. (attachable (corners_of l shades) a.sheet (tolerances_of set) (local_search set params) c at k e).given))

    at_same : (fit : LocalFit) → SameLocal corners.pairs (local_at (corners_of l shades) set params c fit a) (local_at (corners_of l' shades') set params c fit a')
    unfolding local_at
    at_same none = same
    at_same (fitted h rs) = go (lt (gate_of set params) (worst (of_bits binary32 0) rs)) (try_same (applied h (cell_point c)) rs)
      where
        go : (t : Bool) {b b' : LocalState} → SameLocal corners.pairs b b' → SameLocal corners.pairs (cond t (with_residuals rs a) b) (cond t (with_residuals rs a') b')
        go true w = recorded_same same rs
        go false w = w

    visit_same : SameLocal corners.pairs (local_visit (corners_of l shades) set params c a) (local_visit (corners_of l' shades') set params c a')
    unfolding local_visit
    visit_same =
        subst (λ (fit : LocalFit). SameLocal corners.pairs (local_visit (corners_of l shades) set params c a) (local_at (corners_of l' shades') set params c fit a')) (sym fit_same)
        (at_same (local_fit (seen_of (corners_of l shades).corner a.sheet) (supports_of c a.sheet)))

  module _ (first : List ℕ) (begins : Standing l first) where
    sound : Sound (length l.xs) first
    sound = standing_sound begins

    -- where both runs stand, with these cells still to come: in the first run each waits for its turn
    abbrev Both : List ℕ → LocalState → LocalState → Type 0
    Both ps a a' = Trying (corners_of l shades) (tolerances_of set) first ps a × SameLocal corners.pairs a a'

    alike : Alike (local_pass (corners_of l shades) set params) (local_pass (corners_of l' shades') set params) Both
    alike =
        record {
          cells = λ a a' g. local_cells_same g.1.sheet (depth_of params);
          begins = λ a a' g. (trying_begins few sound set params a g.0, g.1);
          keeps = λ p ps a a' g. (
            trying_visit few sound set params p ps a g.0,
            visit_same a a' g.1 (sound_standing begins (sound_tried few sound g.0)).given (cell_of p) (cell_on_lem p (first_on g.0.waiting)),
          );
          made = λ a a' g. ap length g.1.made;
        }

    -- the whole run
    pub local_same : (first' : List ℕ) → PairedSheets corners.pairs first first'
        → SameRounds (SameLocal corners.pairs) (local_run (corners_of l shades) set params first) (local_run (corners_of l' shades') set params first')
    unfolding local_run local_from
    local_same first' paired = rw (paired_count paired) (record { state = both.state.1; rounds = both.rounds })
      where
        start : LocalState
        start = record { sheet = first; made = []; counts = no_counts; largest = None; unmatched = 0 }

        start' : LocalState
        start' = record { sheet = first'; made = []; counts = no_counts; largest = None; unmatched = 0 }

        both : SameRounds (Both [])
            (rounds_from (local_pass (corners_of l shades) set params) (local_limit (label_count first) params.max_iters) (record { state = start; rounds = 0 }))
            (rounds_from (local_pass (corners_of l' shades') set params) (local_limit (label_count first) params.max_iters) (record { state = start'; rounds = 0 }))
        both =
            rounds_same Both alike (local_limit (label_count first) params.max_iters)
            (record { state = start; rounds = 0 }) (record { state = start'; rounds = 0 })
            (record {
              state = (
                record { history = begun; counted = refl; waiting = waiting_none first },
                record { sheet = paired; made = refl; counts = refl; largest = refl; unmatched = refl },
              );
              rounds = refl;
            })
