-- Each pass on the sheet of some written places does what its definition on these places says, and the places still rise. Assumes nothing.
use Rattle.std.specs.Prelude.{None, Ok, Err}
use Rattle.labels.specs.declared.Bounds.{Bounds}
use Rattle.sheet.specs.declared.Corner.{Corner}
use mathlib.Core.Path.{◌≡◌, refl, sym, ap, ap₂, ◌∙◌, fun_ext}
use mathlib.Core.Bool.{Bool, true, false, not, ◌&&◌, cond}
use mathlib.Core.List.{List, [], ◌∷◌, ◌++◌, map}
use Prim.Native.Nat.{ℕ, zero, suc, ◌+◌, ◌*◌}
use lib.Dec.{eqb, ltb}
use lib.ListN.{length, get_or, take}
use lib.Ieee.{Float, binary32, of_bits, lt}
use Rattle.std.specs.Prelude.{Some, None, Option}
use Rattle.elimination.specs.Solve.{eliminated, answered, answers_of}
use Rattle.elimination.proofs.Sound.{sound_is}
use Rattle.homography.specs.Normalize.{normalization_of}
use Rattle.homography.specs.Undo.{undone}
use Rattle.homography.specs.Fit.{scaled_of, equations_of, unscaled, homography_of, applied}
use Rattle.homography.proofs.Normalizing.{normal_finite}
use Rattle.homography.proofs.Fitting.{homography_is}
use Rattle.sheet.specs.Cells.{on_sheet, place_of, cell_of, moved}
use Rattle.sheet.specs.Words.{attached, marks_cleared}
use Rattle.sheet.specs.Shades.{takes}
use Rattle.sheet.specs.Corners.{Corners, seen_of}
use Rattle.sheet.specs.declared.Cell.{Cell}
use Rattle.sheet.specs.declared.Offset.{Offset}
use Rattle.sheet.specs.declared.Position.{Position}
use Rattle.candidates.specs.Candidates.{eligible, candidates_at, first_two}
use Rattle.candidates.specs.Choice.{CandidateChoice}
use Rattle.passed_over.specs.PassedOver.{passed_over}
use Rattle.positions_policy.specs.Edge.{cardinal_offsets, verdict_of, passes}
use Rattle.positions_policy.specs.declared.Tolerances.{Tolerances}
use Rattle.predict.specs.Predict.{prediction_of, extrapolating}
use Rattle.arguments.specs.declared.Settings.{Settings}
use Rattle.arguments.specs.declared.GrowParams.{GrowParams}
use Rattle.arguments.specs.declared.FillParams.{FillParams}
use Rattle.arguments.specs.declared.LocalExtensionParams.{LocalExtensionParams}
use Rattle.extension_common.specs.TryCell.{TryCellResult, unlabelled_on, gathered, unmatched, choice_by, edges_of, result_of, try_at}
use Rattle.extension_common.specs.declared.Search.{Search}
use Rattle.extension_common.specs.declared.NotAttached.{NotAttached}
use Rattle.extension_common.proofs.Laws.{gathered_bare, unmatched_bare}
use Rattle.passes.specs.Counting.{one_more}
use Rattle.passes.specs.Rounds.{RoundPass, Rounds, rounds_from}
use Rattle.passes.specs.Grow.{GrowState, tolerances_of, no_counts, member, wanted, enqueued, enqueued_at, spread, seeded_from, start_of, search_of, missed, grow_with, grow_at, grow_visit, grow_from, grow_run, grow_left, grow_after}
use Rattle.passes.specs.Fill.{FillRounds, box_and_strips, cells_of, fill_cells, fill_search, fill_with, fill_at, fill_visit, fill_pass, fill_from, fill_limit, fill_run, fill_left, fill_after}
use Rattle.passes.specs.Local.{LocalState, LocalFit, none, fitted, LocalRounds, depth_of, local_region, local_cells, by_reach, supports_of, cell_point, pictured_at, trusted, local_fit, worst, with_unmatched, local_search, gate_of, local_with, local_try, local_at, local_visit, local_pass, local_from, local_limit, local_run, unmatched_if, local_left, local_after}
use Rattle.passes.proofs.Rounds.{Alike, rounds_same}
use Rattle.written_places.specs.Written.{Written, Rise, sheet_with, seen_in, places_in, attached_in, cleared_in}
use Rattle.written_places.specs.Passes.{after_of, unlabelled_in, gathered_by, gathered_in, unmatched_by, unmatched_in, edges_in, result_in, try_in, GrowStateIn, grow_state_of, enqueued_in, enqueued_at_in, spread_in, seeded_from_in, missed_in, grow_with_in, grow_at_in, grow_visit_in, grow_from_in, grow_run_in, grow_after_in, FillStateIn, fill_state_of, fill_cells_in, fill_with_in, fill_at_in, fill_visit_in, fill_pass_in, fill_after_in, sound_answers, quick_fit_with, quick_fit_from, quick_fit, LocalStateIn, local_state_of, local_cells_in, supports_in, local_fit_in, with_residuals_in, with_unmatched_in, local_with_in, local_try_in, local_at_in, local_visit_in, local_pass_in, local_after_in}
use Rattle.written_places.proofs.Written.{rise_put, attached_so, hole_so, ambiguous_so, cleared_so, seen_so, labelled_so, places_so, box_so, count_so, used_so, rim_so}

-- ---- one cell

module _ (cs : Corners) (w : List Written) (r : Rise 0 w) where
  unlabelled_so : unlabelled_on (sheet_with w) ≡ unlabelled_in w
  unlabelled_so = fun_ext (λ k. ap not (used_so w r k))

  -- by whether any shade stands
  module _ (radius : Float) (c : Cell) (at : Position) where
    gathered_so : gathered cs (sheet_with w) radius c at ≡ gathered_in cs w radius c at
    unfolding gathered gathered_by
    gathered_so = go cs.shades.any refl
      where
        go : (t : Bool) → cs.shades.any ≡ t → gathered cs (sheet_with w) radius c at ≡ gathered_by t cs w radius c at
        go false e =
            gathered_bare cs e (sheet_with w) radius c at
            ∙ ap (λ (free : ℕ → Bool). first_two (candidates_at (λ k. (cs.corner k).position) free cs.count at radius)) unlabelled_so
        go true e =
            ap (λ (free : ℕ → Bool). first_two (candidates_at (λ k. (cs.corner k).position) (eligible free (takes cs.shades c)) cs.count at radius)) unlabelled_so

    unmatched_so : unmatched cs (sheet_with w) radius c at ≡ unmatched_in cs w radius c at
    unfolding unmatched unmatched_by
    unmatched_so = go cs.shades.any refl
      where
        go : (t : Bool) → cs.shades.any ≡ t → unmatched cs (sheet_with w) radius c at ≡ unmatched_by t cs w radius c at
        go false e = unmatched_bare cs e (sheet_with w) radius c at
        go true e = ap (λ (free : ℕ → Bool). passed_over (λ k. (cs.corner k).position) free (takes cs.shades c) cs.count at radius) unlabelled_so

  edges_so : (tol : Tolerances) (c : Cell) (k : ℕ) → edges_of cs.corner (sheet_with w) tol c k ≡ edges_in cs w tol c k
  unfolding edges_of edges_in
  edges_so tol c k =
      ap (λ (seen : Cell → Option Corner). cond (passes (verdict_of seen tol c (cs.corner k))) (Ok k) (Err NotAttached.EdgeRejected)) (seen_so w cs.corner)

  result_so : (tol : Tolerances) (c : Cell) (choice : CandidateChoice) → result_of cs.corner (sheet_with w) tol c choice ≡ result_in cs w tol c choice
  unfolding result_of result_in
  result_so tol c (Err unchosen) = refl
  result_so tol c (Ok k) = edges_so tol c k

  try_so : (tol : Tolerances) (search : Search) (c : Cell) (at : Position) → try_at cs (sheet_with w) tol search c at ≡ try_in cs w tol search c at
  unfolding try_at try_in
  try_so tol search c at =
      ap (λ found. result_of cs.corner (sheet_with w) tol c (choice_by search.rule found search.ambiguity_factor)) (gathered_so search.search_r c at)
      ∙ result_so tol c (choice_by search.rule (gathered_in cs w search.search_r c at) search.ambiguity_factor)

-- ---- grow

enqueued_so : (w : List Written) (c : Cell) (queued : List ℕ) → enqueued (sheet_with w) c queued ≡ enqueued_in w c queued
unfolding enqueued wanted enqueued_in
enqueued_so w c queued =
    ap (λ (labelled : Cell → Bool). cond (on_sheet c && (not (labelled c) && not (member (place_of c) queued))) (queued ++ (place_of c ∷ [])) queued) (labelled_so w)

enqueued_at_so : (w : List Written) (c : Cell) (os : List Offset) (queued : List ℕ) → enqueued_at (sheet_with w) c os queued ≡ enqueued_at_in w c os queued
unfolding enqueued_at enqueued_at_in
enqueued_at_so w c [] queued = refl
enqueued_at_so w c (o ∷ os) queued =
    ap (enqueued_at (sheet_with w) c os) (enqueued_so w (moved c o) queued) ∙ enqueued_at_so w c os (enqueued_in w (moved c o) queued)

spread_so : (w : List Written) (c : Cell) (queued : List ℕ) → spread (sheet_with w) c queued ≡ spread_in w c queued
unfolding spread
spread_so w c queued = enqueued_at_so w c cardinal_offsets queued

seeded_so : (w : List Written) (ps queued : List ℕ) → seeded_from (sheet_with w) ps queued ≡ seeded_from_in w ps queued
unfolding seeded_from seeded_from_in
seeded_so w [] queued = refl
seeded_so w (p ∷ ps) queued = ap (seeded_from (sheet_with w) ps) (spread_so w (cell_of p) queued) ∙ seeded_so w ps (spread_in w (cell_of p) queued)

missed_so : (c : Cell) (s : GrowStateIn) → missed c (grow_state_of s) ≡ grow_state_of (missed_in c s)
missed_so c s = λ t. record { sheet = hole_so s.sheet c t; queued = s.queued; made = s.made; counts = one_more (Err NotAttached.NoCandidates) s.counts }

grow_with_so : (c : Cell) (r : TryCellResult) (s : GrowStateIn) → grow_with c r (grow_state_of s) ≡ grow_state_of (grow_with_in c r s)
unfolding grow_with grow_with_in
grow_with_so c (Err NotAttached.NoCandidates) s = missed_so c s
grow_with_so c (Err NotAttached.Ambiguous) s = λ t. record { sheet = ambiguous_so s.sheet c t; queued = s.queued; made = s.made; counts = one_more (Err NotAttached.Ambiguous) s.counts }
grow_with_so c (Err NotAttached.EdgeRejected) s = λ t. record { sheet = hole_so s.sheet c t; queued = s.queued; made = s.made; counts = one_more (Err NotAttached.EdgeRejected) s.counts }
grow_with_so c (Ok k) s =
    let more : spread (attached (sheet_with s.sheet) c k) c s.queued ≡ spread_in (attached_in s.sheet c k) c s.queued =
    ap (λ (sheet : List ℕ). spread sheet c s.queued) (attached_so s.sheet c k) ∙ spread_so (attached_in s.sheet c k) c s.queued in
    λ t. record { sheet = attached_so s.sheet c k t; queued = more t; made = s.made ++ (place_of c ∷ []); counts = one_more (Ok k) s.counts }

grow_with_rises : (c : Cell) (r : TryCellResult) (s : GrowStateIn) → Rise 0 s.sheet → Rise 0 (grow_with_in c r s).sheet
unfolding grow_with_in
grow_with_rises c (Err NotAttached.NoCandidates) s h = rise_put s.sheet (place_of c) _ h
grow_with_rises c (Err NotAttached.Ambiguous) s h = rise_put s.sheet (place_of c) _ h
grow_with_rises c (Err NotAttached.EdgeRejected) s h = rise_put s.sheet (place_of c) _ h
grow_with_rises c (Ok k) s h = rise_put s.sheet (place_of c) _ h

module _ (cs : Corners) (set : Settings) (p : GrowParams) where
  grow_at_so : (c : Cell) (at : Option Position) (s : GrowStateIn) → Rise 0 s.sheet → grow_at cs set p c at (grow_state_of s) ≡ grow_state_of (grow_at_in cs set p c at s)
  unfolding grow_at grow_at_in
  grow_at_so c None s h = missed_so c s
  grow_at_so c (Some at) s h =
      ap (λ (seen : Cell → Option Corner). grow_with c (try_at cs (sheet_with s.sheet) (tolerances_of set) (search_of set p (extrapolating seen c)) c at) (grow_state_of s)) (seen_so s.sheet cs.corner)
      ∙ ap (λ (r : TryCellResult). grow_with c r (grow_state_of s)) (try_so cs s.sheet h (tolerances_of set) (search_of set p (extrapolating (seen_in cs.corner s.sheet) c)) c at)
      ∙ grow_with_so c (try_in cs s.sheet (tolerances_of set) (search_of set p (extrapolating (seen_in cs.corner s.sheet) c)) c at) s

  grow_at_rises : (c : Cell) (at : Option Position) (s : GrowStateIn) → Rise 0 s.sheet → Rise 0 (grow_at_in cs set p c at s).sheet
  unfolding grow_at_in
  grow_at_rises c None s h = rise_put s.sheet (place_of c) _ h
  grow_at_rises c (Some at) s h =
      grow_with_rises c (try_in cs s.sheet (tolerances_of set) (search_of set p (extrapolating (seen_in cs.corner s.sheet) c)) c at) s h

  grow_visit_so : (c : Cell) (s : GrowStateIn) → Rise 0 s.sheet → grow_visit cs set p c (grow_state_of s) ≡ grow_state_of (grow_visit_in cs set p c s)
  unfolding grow_visit grow_visit_in
  grow_visit_so c s h =
      ap (λ (seen : Cell → Option Corner). grow_at cs set p c (prediction_of seen set.grid c) (grow_state_of s)) (seen_so s.sheet cs.corner)
      ∙ grow_at_so c (prediction_of (seen_in cs.corner s.sheet) set.grid c) s h

  grow_visit_rises : (c : Cell) (s : GrowStateIn) → Rise 0 s.sheet → Rise 0 (grow_visit_in cs set p c s).sheet
  unfolding grow_visit_in
  grow_visit_rises c s h = grow_at_rises c (prediction_of (seen_in cs.corner s.sheet) set.grid c) s h

  grow_from_so : (m head : ℕ) (s : GrowStateIn) → Rise 0 s.sheet
      → (grow_from cs set p m head (grow_state_of s) ≡ grow_state_of (grow_from_in cs set p m head s)) × Rise 0 (grow_from_in cs set p m head s).sheet
  unfolding grow_from grow_from_in
  grow_from_so zero head s h = (refl, h)
  grow_from_so (suc m) head s h =
      let c = cell_of (get_or s.queued head 0) in
      let next = grow_visit_in cs set p c s in
      let rest = grow_from_so m (head + 1) next (grow_visit_rises c s h) in
      go (ltb head (length s.queued)) (ap (grow_from cs set p m (head + 1)) (grow_visit_so c s h) ∙ rest.0) rest.1
    where
      go : (t : Bool) {a : GrowState} {b : GrowStateIn} → a ≡ grow_state_of b → Rise 0 b.sheet → (cond t a (grow_state_of s) ≡ grow_state_of (cond t b s)) × Rise 0 (cond t b s).sheet
      go true e l = (e, l)
      go false e l = (refl, h)

  module _ (w : List Written) (h : Rise 0 w) where
    start_so : start_of (sheet_with w) ≡ grow_state_of (record { sheet = w; queued = seeded_from_in w (places_in w) []; made = []; counts = no_counts })
    unfolding start_of
    start_so =
        let e : seeded_from (sheet_with w) _ [] ≡ seeded_from_in w (places_in w) [] = ap (λ (ps : List ℕ). seeded_from (sheet_with w) ps []) (places_so w h) ∙ seeded_so w (places_in w) [] in
        λ t. record { sheet = sheet_with w; queued = e t; made = []; counts = no_counts }

    grow_run_so : (grow_run cs set p (sheet_with w) ≡ grow_state_of (grow_run_in cs set p w)) × Rise 0 (grow_run_in cs set p w).sheet
    unfolding grow_run grow_run_in
    grow_run_so =
        let start : GrowStateIn = record { sheet = w; queued = seeded_from_in w (places_in w) []; made = []; counts = no_counts } in
        let r = grow_from_so (4 * cs.count) 0 start h in
        (ap (grow_from cs set p (4 * cs.count) 0) start_so ∙ r.0, r.1)

    pub grow_rises : Rise 0 (grow_after_in cs set p w).sheet
    unfolding grow_after_in
    grow_rises = grow_run_so.1

    pub grow_so : grow_after cs set p (sheet_with w) ≡ after_of (grow_after_in cs set p w)
    unfolding grow_after grow_after_in
    grow_so =
        let s = grow_run_in cs set p w in
        let rim = rim_so s.sheet grow_run_so.1 1 in
        ap grow_left grow_run_so.0 ∙ (λ t. record { answer = record { counts = s.counts; rim = rim t }; sheet = sheet_with s.sheet; attached = s.made; visited = s.queued })

-- ---- rounds

-- where the same cells are listed, there are the same new cells, and each visit does the same, all rounds do the same
module _ {S T : Type 0} (of : T → S) (sheet : T → List Written) (w : RoundPass S) (v : RoundPass T)
    (cells : (t : T) → Rise 0 (sheet t) → w.cells (of t) ≡ v.cells t)
    (made : (t : T) → w.made (of t) ≡ v.made t)
    (visit : (c : Cell) (t : T) → Rise 0 (sheet t) → (w.visit c (of t) ≡ of (v.visit c t)) × Rise 0 (sheet (v.visit c t))) where
  abbrev Held : List ℕ → S → T → Type 0
  Held qs s t = (s ≡ of t) × Rise 0 (sheet t)

  alike : Alike w v Held
  alike =
      record {
        cells = λ s t g. sym (ap w.cells g.0 ∙ cells t g.1);
        begins = λ s t g. g;
        keeps = λ q qs s t g. let k = visit (cell_of q) t g.1 in (ap (w.visit (cell_of q)) g.0 ∙ k.0, k.1);
        made = λ s t g. ap length (sym (ap w.made g.0 ∙ made t));
      }

  rounds_so : (m : ℕ) (r : Rounds T) → Rise 0 (sheet r.state)
      → (rounds_from w m (record { state = of r.state; rounds = r.rounds })
      ≡ record { state = of (rounds_from v m r).state; rounds = (rounds_from v m r).rounds })
      × Rise 0 (sheet (rounds_from v m r).state)
  rounds_so m r h =
      let g = rounds_same Held alike m (record { state = of r.state; rounds = r.rounds }) r (record { state = (refl, h); rounds = refl }) in
      (λ t. record { state = g.state.0 t; rounds = sym g.rounds t }, g.state.1)

-- ---- fill

pub fill_cells_so : (w : List Written) → Rise 0 w → fill_cells (sheet_with w) ≡ fill_cells_in w
unfolding fill_cells
fill_cells_so w h = ap₂ (λ (box : Option Bounds) (labelled : Cell → Bool). cells_of (box_and_strips box) labelled) (box_so w h) (labelled_so w)

fill_with_so : (c : Cell) (r : TryCellResult) (s : FillStateIn) → fill_with c r (fill_state_of s) ≡ fill_state_of (fill_with_in c r s)
unfolding fill_with fill_with_in
fill_with_so c (Err e) s = refl
fill_with_so c (Ok k) s = λ t. record { sheet = attached_so s.sheet c k t; made = s.made ++ (place_of c ∷ []) }

fill_with_rises : (c : Cell) (r : TryCellResult) (s : FillStateIn) → Rise 0 s.sheet → Rise 0 (fill_with_in c r s).sheet
unfolding fill_with_in
fill_with_rises c (Err e) s h = h
fill_with_rises c (Ok k) s h = rise_put s.sheet (place_of c) _ h

module _ (cs : Corners) (set : Settings) (p : FillParams) where
  fill_at_so : (c : Cell) (at : Option Position) (s : FillStateIn) → Rise 0 s.sheet → fill_at cs set p c at (fill_state_of s) ≡ fill_state_of (fill_at_in cs set p c at s)
  unfolding fill_at fill_at_in
  fill_at_so c None s h = refl
  fill_at_so c (Some at) s h =
      ap (λ (r : TryCellResult). fill_with c r (fill_state_of s)) (try_so cs s.sheet h (tolerances_of set) (fill_search set p) c at)
      ∙ fill_with_so c (try_in cs s.sheet (tolerances_of set) (fill_search set p) c at) s

  fill_at_rises : (c : Cell) (at : Option Position) (s : FillStateIn) → Rise 0 s.sheet → Rise 0 (fill_at_in cs set p c at s).sheet
  unfolding fill_at_in
  fill_at_rises c None s h = h
  fill_at_rises c (Some at) s h = fill_with_rises c (try_in cs s.sheet (tolerances_of set) (fill_search set p) c at) s h

  fill_visit_so : (c : Cell) (s : FillStateIn) → Rise 0 s.sheet → fill_visit cs set p c (fill_state_of s) ≡ fill_state_of (fill_visit_in cs set p c s)
  unfolding fill_visit fill_visit_in
  fill_visit_so c s h =
      ap (λ (seen : Cell → Option Corner). fill_at cs set p c (prediction_of seen set.grid c) (fill_state_of s)) (seen_so s.sheet cs.corner)
      ∙ fill_at_so c (prediction_of (seen_in cs.corner s.sheet) set.grid c) s h

  fill_visit_rises : (c : Cell) (s : FillStateIn) → Rise 0 s.sheet → Rise 0 (fill_visit_in cs set p c s).sheet
  unfolding fill_visit_in
  fill_visit_rises c s h = fill_at_rises c (prediction_of (seen_in cs.corner s.sheet) set.grid c) s h

  abbrev fill_rounds_of : Rounds FillStateIn → FillRounds
  fill_rounds_of r = record { state = fill_state_of r.state; rounds = r.rounds }

  abbrev fill_run_in : List Written → Rounds FillStateIn
  fill_run_in w = rounds_from (fill_pass_in cs set p) (fill_limit (length (places_in w)) p.max_iters)
      (record { state = record { sheet = w; made = [] }; rounds = 0 })

  module _ (w : List Written) (h : Rise 0 w) where
    fill_run_so : (fill_run cs set p (sheet_with w) ≡ fill_rounds_of (fill_run_in w)) × Rise 0 (fill_run_in w).state.sheet
    unfolding fill_run fill_from
    fill_run_so =
        let start : Rounds FillStateIn = record { state = record { sheet = w; made = [] }; rounds = 0 } in
        let r = rounds_so fill_state_of (λ s. s.sheet) (fill_pass cs set p) (fill_pass_in cs set p) (λ s k. fill_cells_so s.sheet k) (λ s. refl)
        (λ c s k. (fill_visit_so c s k, fill_visit_rises c s k)) (fill_limit (length (places_in w)) p.max_iters) start h in
        (ap (λ (n : ℕ). rounds_from (fill_pass cs set p) (fill_limit n p.max_iters) (fill_rounds_of start)) (count_so w h) ∙ r.0, r.1)

    pub fill_rises : Rise 0 (fill_after_in cs set p w).sheet
    unfolding fill_after_in
    fill_rises = fill_run_so.1

    pub fill_so : fill_after cs set p (sheet_with w) ≡ after_of (fill_after_in cs set p w)
    unfolding fill_after fill_after_in
    fill_so =
        let r = fill_run_in w in
        let rim = rim_so r.state.sheet fill_run_so.1 1 in
        ap fill_left fill_run_so.0
        ∙ (λ t. record { answer = record { added = length r.state.made; iterations = r.rounds; rim = rim t }; sheet = sheet_with r.state.sheet; attached = r.state.made; visited = [] })

-- ---- local

pub local_cells_so : (depth : ℕ) (w : List Written) → Rise 0 w → local_cells depth (sheet_with w) ≡ local_cells_in depth w
unfolding local_cells
local_cells_so depth w h =
    let ps = places_so w h in
    let box = box_so w h in
    λ t. cells_of (local_region depth (ps t) (box t)) (labelled_so w t)

-- the fit
quick_so : (cells corners : List Position) → homography_of cells corners ≡ quick_fit cells corners
unfolding quick_fit quick_fit_from quick_fit_with unscaled answers_of
quick_so cells corners =
    let m = eliminated 8 (equations_of cells corners) in
    let b = answered 8 m in
    let sound = sound_is (equations_of cells corners) m b (sound_answers m b) refl refl refl in
    homography_is cells corners
    ∙ (λ t. cond (sym (normal_finite cells) t && (sym (normal_finite corners) t && sym sound t)) (scaled_of (undone b (normalization_of cells) (normalization_of corners))) None)

local_fit_so : (cs : Corners) (w : List Written) (ps : List ℕ) → local_fit (seen_of cs.corner (sheet_with w)) ps ≡ local_fit_in cs w ps
unfolding local_fit local_fit_in
local_fit_so cs w ps =
    ap (λ (seen : Cell → Option Corner). trusted seen ps (homography_of (map (λ p. cell_point (cell_of p)) ps) (map (pictured_at seen) ps))) (seen_so w cs.corner)
    ∙ ap (trusted (seen_in cs.corner w) ps) (quick_so (map (λ p. cell_point (cell_of p)) ps) (map (pictured_at (seen_in cs.corner w)) ps))

local_with_so : (c : Cell) (r : TryCellResult) (s : LocalStateIn) → local_with c r (local_state_of s) ≡ local_state_of (local_with_in c r s)
unfolding local_with local_with_in
local_with_so c (Err e) s = refl
local_with_so c (Ok k) s =
    let e : marks_cleared (attached (sheet_with s.sheet) c k) c ≡ sheet_with (cleared_in (attached_in s.sheet c k) c) =
    ap (λ (sheet : List ℕ). marks_cleared sheet c) (attached_so s.sheet c k) ∙ cleared_so (attached_in s.sheet c k) c in
    λ t. record { sheet = e t; made = s.made ++ (place_of c ∷ []); counts = one_more (Ok k) s.counts; largest = s.largest; unmatched = s.unmatched }

local_with_rises : (c : Cell) (r : TryCellResult) (s : LocalStateIn) → Rise 0 s.sheet → Rise 0 (local_with_in c r s).sheet
unfolding local_with_in
local_with_rises c (Err e) s h = h
local_with_rises c (Ok k) s h = rise_put (attached_in s.sheet c k) (place_of c) _ (rise_put s.sheet (place_of c) _ h)

module _ (cs : Corners) (set : Settings) (p : LocalExtensionParams) where
  local_try_so : (c : Cell) (at : Position) (s : LocalStateIn) → Rise 0 s.sheet → local_try cs set p c at (local_state_of s) ≡ local_state_of (local_try_in cs set p c at s)
  unfolding local_try local_try_in
  local_try_so c at s h =
      let m = unmatched_in cs s.sheet (local_search set p).search_r c at in
      ap₂ (λ (r : TryCellResult) (n : ℕ). local_with c r (with_unmatched n (local_state_of s)))
      (try_so cs s.sheet h (tolerances_of set) (local_search set p) c at) (unmatched_so cs s.sheet h (local_search set p).search_r c at)
      ∙ local_with_so c (try_in cs s.sheet (tolerances_of set) (local_search set p) c at) (with_unmatched_in m s)

  local_try_rises : (c : Cell) (at : Position) (s : LocalStateIn) → Rise 0 s.sheet → Rise 0 (local_try_in cs set p c at s).sheet
  unfolding local_try_in
  local_try_rises c at s h = local_with_rises c (try_in cs s.sheet (tolerances_of set) (local_search set p) c at) (with_unmatched_in _ s) h

  local_at_so : (c : Cell) (f : LocalFit) (s : LocalStateIn) → Rise 0 s.sheet
      → (local_at cs set p c f (local_state_of s) ≡ local_state_of (local_at_in cs set p c f s)) × Rise 0 (local_at_in cs set p c f s).sheet
  unfolding local_at local_at_in
  local_at_so c none s h = (refl, h)
  local_at_so c (fitted m rs) s h =
      let at = applied m (cell_point c) in
      go (lt (gate_of set p) (worst (of_bits binary32 0) rs)) (local_try_so c at (with_residuals_in rs s) h) (local_try_rises c at (with_residuals_in rs s) h)
    where
      go : (t : Bool) {a : LocalState} {b : LocalStateIn} → a ≡ local_state_of b → Rise 0 b.sheet
          → (cond t (local_state_of (with_residuals_in rs s)) a ≡ local_state_of (cond t (with_residuals_in rs s) b)) × Rise 0 (cond t (with_residuals_in rs s) b).sheet
      go true e l = (refl, h)
      go false e l = (e, l)

  local_visit_so : (c : Cell) (s : LocalStateIn) → Rise 0 s.sheet
      → (local_visit cs set p c (local_state_of s) ≡ local_state_of (local_visit_in cs set p c s)) × Rise 0 (local_visit_in cs set p c s).sheet
  unfolding local_visit local_visit_in supports_of
  local_visit_so c s h =
      let ps = supports_in c s.sheet in
      let f : local_fit (seen_of cs.corner (sheet_with s.sheet)) (supports_of c (sheet_with s.sheet)) ≡ local_fit_in cs s.sheet ps =
      ap (λ (places : List ℕ). local_fit (seen_of cs.corner (sheet_with s.sheet)) (take 4 (by_reach c places))) (places_so s.sheet h) ∙ local_fit_so cs s.sheet ps in
      let r = local_at_so c (local_fit_in cs s.sheet ps) s h in
      (ap (λ (x : LocalFit). local_at cs set p c x (local_state_of s)) f ∙ r.0, r.1)

  abbrev local_rounds_of : Rounds LocalStateIn → LocalRounds
  local_rounds_of r = record { state = local_state_of r.state; rounds = r.rounds }

  abbrev local_start : List Written → Rounds LocalStateIn
  local_start w = record { state = record { sheet = w; made = []; counts = no_counts; largest = None; unmatched = 0 }; rounds = 0 }

  abbrev local_run_in : List Written → Rounds LocalStateIn
  local_run_in w = rounds_from (local_pass_in cs set p) (local_limit (length (places_in w)) p.max_iters) (local_start w)

  module _ (w : List Written) (h : Rise 0 w) where
    local_run_so : (local_run cs set p (sheet_with w) ≡ local_rounds_of (local_run_in w)) × Rise 0 (local_run_in w).state.sheet
    unfolding local_run local_from
    local_run_so =
        let r = rounds_so local_state_of (λ s. s.sheet) (local_pass cs set p) (local_pass_in cs set p)
        (λ s k. local_cells_so (depth_of p) s.sheet k) (λ s. refl) local_visit_so
        (local_limit (length (places_in w)) p.max_iters) (local_start w) h in
        (ap (λ (n : ℕ). rounds_from (local_pass cs set p) (local_limit n p.max_iters) (local_rounds_of (local_start w))) (count_so w h) ∙ r.0, r.1)

    pub local_rises : Rise 0 (local_after_in cs set p w).sheet
    unfolding local_after_in
    local_rises = local_run_so.1

    pub local_so : local_after cs set p (sheet_with w) ≡ after_of (local_after_in cs set p w)
    unfolding local_after local_after_in
    local_so =
        let r = local_run_in w in
        let rim = rim_so r.state.sheet local_run_so.1 (depth_of p) in
        ap (local_left cs.shades.any (depth_of p)) local_run_so.0
        ∙ (λ t. record {
          answer =
              record {
                counts = r.state.counts;
                iterations = r.rounds;
                residual = r.state.largest;
                rim = rim t;
                unmatched = unmatched_if cs.shades.any r.state.unmatched;
              };
          sheet = sheet_with r.state.sheet;
          attached = r.state.made;
          visited = [];
        })
