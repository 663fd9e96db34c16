-- The passes on a sheet of which only the written places are kept: each definition is that of the crate `passes` or `extension_common` of the same name
-- without the ending, its sheet kept so. `proofs/Passes.antt` shows that the passes do the same. Definitions only.
use Rattle.std.specs.Prelude.{Bool, true, false, not, ◌&&◌, cond, List, [], ◌∷◌, ◌++◌, map, ℕ, zero, suc, ◌+◌, ◌*◌, ltb, length, get_or, take, Some, None, Float, Option, Ok, Err}
use Rattle.std.specs.Float.{binary32}
use Rattle.std.specs.Float.Ieee.{of_bits, lt}
use Rattle.binary32.specs.Ranges.{is_finite}
use Rattle.elimination.specs.Solve.{Matrix, Row, eliminated, answered, nonzero_diagonal, finite_matrix, finite_answers}
use Rattle.homography.specs.Normalize.{normalization_of, mean_distance, normalized, finite_points}
use Rattle.homography.specs.Undo.{undone}
use Rattle.homography.specs.Fit.{Answer, scaled_of, equations_of, applied}
use Rattle.sheet.specs.Shades.{takes}
use Rattle.sheet.specs.Corners.{Corners}
use Rattle.sheet.specs.Cells.{on_sheet, place_of, cell_of, moved}
use Rattle.sheet.specs.declared.Cell.{Cell}
use Rattle.sheet.specs.declared.Offset.{Offset}
use Rattle.sheet.specs.declared.Position.{Position}
use Rattle.labels.specs.Box.{box_around}
use Rattle.candidates.specs.Candidates.{eligible, candidates_at, first_two}
use Rattle.candidates.specs.declared.Candidates.{Candidates}
use Rattle.candidates.specs.Choice.{CandidateChoice}
use Rattle.passed_over.specs.PassedOver.{passed_over}
use Rattle.positions_policy.specs.Edge.{cardinal_offsets, verdict_of, passes}
use Rattle.positions_policy.specs.declared.Tolerances.{Tolerances}
use Rattle.predict.specs.Predict.{prediction_of, extrapolating}
use Rattle.arguments.specs.declared.Settings.{Settings}
use Rattle.arguments.specs.declared.GrowParams.{GrowParams}
use Rattle.arguments.specs.declared.FillParams.{FillParams}
use Rattle.arguments.specs.declared.LocalExtensionParams.{LocalExtensionParams}
use Rattle.extension_common.specs.TryCell.{TryCellResult, unattached, choice_by}
use Rattle.extension_common.specs.declared.Search.{Search}
use Rattle.extension_common.specs.declared.NotAttached.{NotAttached}
use Rattle.passes.specs.Outcome.{After}
use Rattle.passes.specs.Counting.{no_counts, one_more}
use Rattle.passes.specs.Rounds.{RoundPass, Rounds, rounds_from}
use Rattle.passes.specs.Grow.{GrowState, tolerances_of, member, search_of}
use Rattle.passes.specs.Fill.{FillState, box_and_strips, cells_of, fill_search, fill_limit}
use Rattle.passes.specs.Local.{LocalState, LocalFit, none, fitted, depth_of, local_region, by_reach, cell_point, pictured_at, trusted}
use Rattle.passes.specs.Local.{worst, recorded_all, local_search, gate_of, local_limit, unmatched_if}
use Rattle.passes.specs.declared.Counts.{Counts}
use Rattle.passes.specs.declared.GrowStats.{GrowStats}
use Rattle.passes.specs.declared.FillStats.{FillStats}
use Rattle.passes.specs.declared.LocalStats.{LocalStats}
use Rattle.written_places.specs.Written.{Written, sheet_with, labelled_in, seen_in, places_in, used_in, rim_in, attached_in, hole_in, ambiguous_in, cleared_in}

-- what a pass answers and leaves
pub record AfterIn (A : Type 0) : Type 0 where
  pub answer : A
  pub sheet : List Written
  pub attached : List ℕ
  pub visited : List ℕ

abbrev pub after_of : {A : Type 0} → AfterIn A → After A
after_of a = record { answer = a.answer; sheet = sheet_with a.sheet; attached = a.attached; visited = a.visited }

-- ---- one cell

abbrev pub unlabelled_in : List Written → ℕ → Bool
unlabelled_in w k = not (used_in w k)

-- by whether any shade stands: no kind is looked at where none does
unfoldable pub gathered_by : Bool → Corners → List Written → Float → Cell → Position → Candidates
gathered_by false cs w radius c at = first_two (candidates_at (λ k. (cs.corner k).position) (unlabelled_in w) cs.count at radius)
gathered_by true cs w radius c at =
    first_two (candidates_at (λ k. (cs.corner k).position) (eligible (unlabelled_in w) (takes cs.shades c)) cs.count at radius)

abbrev pub gathered_in : Corners → List Written → Float → Cell → Position → Candidates
gathered_in cs w radius c at = gathered_by cs.shades.any cs w radius c at

unfoldable pub unmatched_by : Bool → Corners → List Written → Float → Cell → Position → ℕ
unmatched_by false cs w radius c at = 0
unmatched_by true cs w radius c at = passed_over (λ k. (cs.corner k).position) (unlabelled_in w) (takes cs.shades c) cs.count at radius

abbrev pub unmatched_in : Corners → List Written → Float → Cell → Position → ℕ
unmatched_in cs w radius c at = unmatched_by cs.shades.any cs w radius c at

unfoldable pub edges_in : Corners → List Written → Tolerances → Cell → ℕ → TryCellResult
edges_in cs w tol c k = cond (passes (verdict_of (seen_in cs.corner w) tol c (cs.corner k))) (Ok k) (Err NotAttached.EdgeRejected)

unfoldable pub result_in : Corners → List Written → Tolerances → Cell → CandidateChoice → TryCellResult
result_in cs w tol c (Err unchosen) = Err (unattached unchosen)
result_in cs w tol c (Ok k) = edges_in cs w tol c k

unfoldable pub try_in : Corners → List Written → Tolerances → Search → Cell → Position → TryCellResult
try_in cs w tol search c at =
    result_in cs w tol c (choice_by search.rule (gathered_in cs w search.search_r c at) search.ambiguity_factor)

-- ---- grow

pub record GrowStateIn : Type 0 where
  pub sheet : List Written
  pub queued : List ℕ
  pub made : List ℕ
  pub counts : Counts

abbrev pub grow_state_of : GrowStateIn → GrowState
grow_state_of s = record { sheet = sheet_with s.sheet; queued = s.queued; made = s.made; counts = s.counts }

unfoldable pub enqueued_in : List Written → Cell → List ℕ → List ℕ
enqueued_in w c queued = cond (on_sheet c && (not (labelled_in w c) && not (member (place_of c) queued))) (queued ++ (place_of c ∷ [])) queued

unfoldable pub enqueued_at_in : List Written → Cell → List Offset → List ℕ → List ℕ
enqueued_at_in w c [] queued = queued
enqueued_at_in w c (o ∷ os) queued = enqueued_at_in w c os (enqueued_in w (moved c o) queued)

abbrev pub spread_in : List Written → Cell → List ℕ → List ℕ
spread_in w c queued = enqueued_at_in w c cardinal_offsets queued

unfoldable pub seeded_from_in : List Written → List ℕ → List ℕ → List ℕ
seeded_from_in w [] queued = queued
seeded_from_in w (p ∷ ps) queued = seeded_from_in w ps (spread_in w (cell_of p) queued)

abbrev pub missed_in : Cell → GrowStateIn → GrowStateIn
missed_in c s = record { sheet = hole_in s.sheet c; queued = s.queued; made = s.made; counts = one_more (Err NotAttached.NoCandidates) s.counts }

unfoldable pub grow_with_in : Cell → TryCellResult → GrowStateIn → GrowStateIn
grow_with_in c (Err NotAttached.NoCandidates) s = missed_in c s
grow_with_in c (Err NotAttached.Ambiguous) s = record { sheet = ambiguous_in s.sheet c; queued = s.queued; made = s.made; counts = one_more (Err NotAttached.Ambiguous) s.counts }
grow_with_in c (Err NotAttached.EdgeRejected) s = record { sheet = hole_in s.sheet c; queued = s.queued; made = s.made; counts = one_more (Err NotAttached.EdgeRejected) s.counts }
grow_with_in c (Ok k) s = record {
  sheet = attached_in s.sheet c k;
  queued = spread_in (attached_in s.sheet c k) c s.queued;
  made = s.made ++ (place_of c ∷ []);
  counts = one_more (Ok k) s.counts;
}

unfoldable pub grow_at_in : Corners → Settings → GrowParams → Cell → Option Position → GrowStateIn → GrowStateIn
grow_at_in cs set p c None s = missed_in c s
grow_at_in cs set p c (Some at) s =
    grow_with_in c (try_in cs s.sheet (tolerances_of set) (search_of set p (extrapolating (seen_in cs.corner s.sheet) c)) c at) s

unfoldable pub grow_visit_in : Corners → Settings → GrowParams → Cell → GrowStateIn → GrowStateIn
grow_visit_in cs set p c s = grow_at_in cs set p c (prediction_of (seen_in cs.corner s.sheet) set.grid c) s

unfoldable pub grow_from_in : Corners → Settings → GrowParams → ℕ → ℕ → GrowStateIn → GrowStateIn
grow_from_in cs set p zero head s = s
grow_from_in cs set p (suc m) head s =
    cond (ltb head (length s.queued)) (grow_from_in cs set p m (head + 1) (grow_visit_in cs set p (cell_of (get_or s.queued head 0)) s)) s

unfoldable pub grow_run_in : Corners → Settings → GrowParams → List Written → GrowStateIn
grow_run_in cs set p w =
    grow_from_in cs set p (4 * cs.count) 0 (record { sheet = w; queued = seeded_from_in w (places_in w) []; made = []; counts = no_counts })

abbrev pub grow_left_in : GrowStateIn → AfterIn GrowStats
grow_left_in s = record { answer = record { counts = s.counts; rim = rim_in 1 s.sheet }; sheet = s.sheet; attached = s.made; visited = s.queued }

unfoldable pub grow_after_in : Corners → Settings → GrowParams → List Written → AfterIn GrowStats
grow_after_in cs set p w = grow_left_in (grow_run_in cs set p w)

-- ---- fill

pub record FillStateIn : Type 0 where
  pub sheet : List Written
  pub made : List ℕ

abbrev pub fill_state_of : FillStateIn → FillState
fill_state_of s = record { sheet = sheet_with s.sheet; made = s.made }

abbrev pub fill_cells_in : List Written → List ℕ
fill_cells_in w = cells_of (box_and_strips (box_around (places_in w))) (labelled_in w)

unfoldable pub fill_with_in : Cell → TryCellResult → FillStateIn → FillStateIn
fill_with_in c (Err e) s = s
fill_with_in c (Ok k) s = record { sheet = attached_in s.sheet c k; made = s.made ++ (place_of c ∷ []) }

unfoldable pub fill_at_in : Corners → Settings → FillParams → Cell → Option Position → FillStateIn → FillStateIn
fill_at_in cs set p c None s = s
fill_at_in cs set p c (Some at) s = fill_with_in c (try_in cs s.sheet (tolerances_of set) (fill_search set p) c at) s

unfoldable pub fill_visit_in : Corners → Settings → FillParams → Cell → FillStateIn → FillStateIn
fill_visit_in cs set p c s = fill_at_in cs set p c (prediction_of (seen_in cs.corner s.sheet) set.grid c) s

abbrev pub fill_pass_in : Corners → Settings → FillParams → RoundPass FillStateIn
fill_pass_in cs set p = record { cells = λ s. fill_cells_in s.sheet; visit = fill_visit_in cs set p; made = λ s. s.made }

abbrev pub fill_left_in : Rounds FillStateIn → AfterIn FillStats
fill_left_in r = record {
  answer = record { added = length r.state.made; iterations = r.rounds; rim = rim_in 1 r.state.sheet };
  sheet = r.state.sheet;
  attached = r.state.made;
  visited = [];
}

unfoldable pub fill_after_in : Corners → Settings → FillParams → List Written → AfterIn FillStats
fill_after_in cs set p w =
    fill_left_in (rounds_from (fill_pass_in cs set p) (fill_limit (length (places_in w)) p.max_iters)
    (record { state = record { sheet = w; made = [] }; rounds = 0 }))

-- ---- local

-- the fit, with no more tests than are needed: of the mean distances, the points, the eliminated equations and the answers
abbrev pub sound_points : List Position → Bool
sound_points ps = is_finite (mean_distance ps) && finite_points (normalized ps)

abbrev pub sound_answers : Matrix → Row → Bool
sound_answers m b = nonzero_diagonal m && (finite_matrix m && finite_answers b)

unfoldable pub quick_fit_with : List Position → List Position → Matrix → Row → Answer
quick_fit_with cells corners m b =
    cond (sound_points cells && (sound_points corners && sound_answers m b)) (scaled_of (undone b (normalization_of cells) (normalization_of corners))) None

unfoldable pub quick_fit_from : List Position → List Position → Matrix → Answer
quick_fit_from cells corners m = quick_fit_with cells corners m (answered 8 m)

unfoldable pub quick_fit : List Position → List Position → Answer
quick_fit cells corners = quick_fit_from cells corners (eliminated 8 (equations_of cells corners))

pub record LocalStateIn : Type 0 where
  pub sheet : List Written
  pub made : List ℕ
  pub counts : Counts
  pub largest : Option Float
  pub unmatched : ℕ

abbrev pub local_state_of : LocalStateIn → LocalState
local_state_of s = record { sheet = sheet_with s.sheet; made = s.made; counts = s.counts; largest = s.largest; unmatched = s.unmatched }

abbrev pub local_cells_in : ℕ → List Written → List ℕ
local_cells_in depth w = cells_of (local_region depth (places_in w) (box_around (places_in w))) (labelled_in w)

abbrev pub supports_in : Cell → List Written → List ℕ
supports_in c w = take 4 (by_reach c (places_in w))

unfoldable pub local_fit_in : Corners → List Written → List ℕ → LocalFit
local_fit_in cs w ps =
    trusted (seen_in cs.corner w) ps (quick_fit (map (λ p. cell_point (cell_of p)) ps) (map (pictured_at (seen_in cs.corner w)) ps))

abbrev pub with_residuals_in : List Float → LocalStateIn → LocalStateIn
with_residuals_in rs s =
    record { sheet = s.sheet; made = s.made; counts = s.counts; largest = recorded_all s.largest rs; unmatched = s.unmatched }

abbrev pub with_unmatched_in : ℕ → LocalStateIn → LocalStateIn
with_unmatched_in n s = record { sheet = s.sheet; made = s.made; counts = s.counts; largest = s.largest; unmatched = s.unmatched + n }

abbrev pub counted_in : TryCellResult → LocalStateIn → LocalStateIn
counted_in r s = record { sheet = s.sheet; made = s.made; counts = one_more r s.counts; largest = s.largest; unmatched = s.unmatched }

unfoldable pub local_with_in : Cell → TryCellResult → LocalStateIn → LocalStateIn
local_with_in c (Err e) s = counted_in (Err e) s
local_with_in c (Ok k) s = record {
  sheet = cleared_in (attached_in s.sheet c k) c;
  made = s.made ++ (place_of c ∷ []);
  counts = one_more (Ok k) s.counts;
  largest = s.largest;
  unmatched = s.unmatched;
}

unfoldable pub local_try_in : Corners → Settings → LocalExtensionParams → Cell → Position → LocalStateIn → LocalStateIn
local_try_in cs set p c at s =
    local_with_in c (try_in cs s.sheet (tolerances_of set) (local_search set p) c at)
    (with_unmatched_in (unmatched_in cs s.sheet (local_search set p).search_r c at) s)

unfoldable pub local_at_in : Corners → Settings → LocalExtensionParams → Cell → LocalFit → LocalStateIn → LocalStateIn
local_at_in cs set p c none s = s
local_at_in cs set p c (fitted h rs) s =
    cond (lt (gate_of set p) (worst (of_bits binary32 0) rs)) (with_residuals_in rs s)
    (local_try_in cs set p c (applied h (cell_point c)) (with_residuals_in rs s))

unfoldable pub local_visit_in : Corners → Settings → LocalExtensionParams → Cell → LocalStateIn → LocalStateIn
local_visit_in cs set p c s = local_at_in cs set p c (local_fit_in cs s.sheet (supports_in c s.sheet)) s

abbrev pub local_pass_in : Corners → Settings → LocalExtensionParams → RoundPass LocalStateIn
local_pass_in cs set p = record { cells = λ s. local_cells_in (depth_of p) s.sheet; visit = local_visit_in cs set p; made = λ s. s.made }

abbrev pub local_left_in : Bool → ℕ → Rounds LocalStateIn → AfterIn LocalStats
local_left_in shaded depth r = record {
  answer =
      record {
        counts = r.state.counts;
        iterations = r.rounds;
        residual = r.state.largest;
        rim = rim_in depth r.state.sheet;
        unmatched = unmatched_if shaded r.state.unmatched;
      };
  sheet = r.state.sheet;
  attached = r.state.made;
  visited = [];
}

unfoldable pub local_after_in : Corners → Settings → LocalExtensionParams → List Written → AfterIn LocalStats
local_after_in cs set p w =
    local_left_in cs.shades.any (depth_of p)
    (rounds_from (local_pass_in cs set p) (local_limit (length (places_in w)) p.max_iters)
    (record { state = record { sheet = w; made = []; counts = no_counts; largest = None; unmatched = 0 }; rounds = 0 }))
