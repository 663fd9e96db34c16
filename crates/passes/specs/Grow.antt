-- Grow (document 01, "Sheet": "seeds by i, then j; neighbours are queued in Edge's order, each cell once. No candidate and edge refusals
-- mark a hole."; shared/grow_extend.rs). Definitions only.
use Rattle.std.specs.Prelude.{Bool, true, false, not, ◌&&◌, cond, List, [], ◌∷◌, ◌++◌, ℕ, zero, suc, ◌+◌, ◌*◌, eqb, ltb, length, get_or, Float, Option, Some, None, Ok, Err}
use Rattle.std.specs.Float.{binary32}
use Rattle.std.specs.Float.Ieee.{mul}
use Rattle.sheet.specs.Cells.{on_sheet, place_of, cell_of, moved}
use Rattle.sheet.specs.Words.{label_at, attached, hole_marked, ambiguous_marked}
use Rattle.sheet.specs.Corners.{Corners, seen_of}
use Rattle.sheet.specs.declared.Cell.{Cell}
use Rattle.sheet.specs.declared.Offset.{Offset}
use Rattle.labels.specs.Labelled.{names_corner, labelled_places}
use Rattle.labels.specs.Rim.{rim}
use Rattle.predict.specs.Predict.{prediction_of, extrapolating}
use Rattle.sheet.specs.declared.Position.{Position}
use Rattle.positions_policy.specs.Edge.{cardinal_offsets}
use Rattle.positions_policy.specs.declared.Tolerances.{Tolerances}
use Rattle.arguments.specs.declared.Settings.{Settings}
use Rattle.arguments.specs.declared.GrowParams.{GrowParams}
use Rattle.extension_common.specs.TryCell.{TryCellResult, try_at}
use Rattle.extension_common.specs.declared.ChoiceRule.{ChoiceRule}
use Rattle.extension_common.specs.declared.Search.{Search}
use Rattle.extension_common.specs.declared.NotAttached.{NotAttached}
use Rattle.passes.specs.Outcome.{After}
pub use Rattle.passes.specs.Counting.{no_counts}
use Rattle.passes.specs.Counting.{one_more}
use Rattle.passes.specs.declared.Counts.{Counts}
use Rattle.passes.specs.declared.GrowStats.{GrowStats}

-- the edge's tolerances of a call: its cell size and its band
abbrev pub tolerances_of : Settings → Tolerances
tolerances_of s = record { cell_size = s.grid.cell_size; edge_length_tol = s.edge_length_tol }

-- where grow stands: the sheet, all cells queued so far in order, the new cells in order, and the counts
pub record GrowState : Type 0 where
  pub sheet : List ℕ
  pub queued : List ℕ
  pub made : List ℕ
  pub counts : Counts

-- ---- the queue

unfoldable pub member : ℕ → List ℕ → Bool
member p [] = false
member p (q ∷ qs) = cond (eqb p q) true (member p qs)

-- a cell is queued if it lies on the sheet, is unlabelled, and was not queued before
unfoldable pub wanted : List ℕ → List ℕ → Cell → Bool
wanted sheet queued c = on_sheet c && (not (names_corner (label_at sheet c)) && not (member (place_of c) queued))

unfoldable pub enqueued : List ℕ → Cell → List ℕ → List ℕ
enqueued sheet c queued = cond (wanted sheet queued c) (queued ++ (place_of c ∷ [])) queued

-- the cells at some offsets from a cell, queued one after the other
unfoldable pub enqueued_at : List ℕ → Cell → List Offset → List ℕ → List ℕ
enqueued_at sheet c [] queued = queued
enqueued_at sheet c (o ∷ os) queued = enqueued_at sheet c os (enqueued sheet (moved c o) queued)

-- the cardinal neighbours of a cell, in Edge's order
unfoldable pub spread : List ℕ → Cell → List ℕ → List ℕ
spread sheet c queued = enqueued_at sheet c cardinal_offsets queued

-- the neighbours of some labelled cells, one cell after the other
unfoldable pub seeded_from : List ℕ → List ℕ → List ℕ → List ℕ
seeded_from sheet [] queued = queued
seeded_from sheet (p ∷ ps) queued = seeded_from sheet ps (spread sheet (cell_of p) queued)

-- at the start: the neighbours of all labelled cells, by i, then j
unfoldable pub start_of : List ℕ → GrowState
start_of sheet = record { sheet = sheet; queued = seeded_from sheet (labelled_places sheet) []; made = []; counts = no_counts }

-- ---- one cell

-- the radius: search times cell size, times boundary where extrapolating
unfoldable pub radius_of : Settings → GrowParams → Bool → Float
radius_of s p true = mul binary32 (mul binary32 p.attach_search_rel s.grid.cell_size) p.boundary_search_factor
radius_of s p false = mul binary32 p.attach_search_rel s.grid.cell_size

unfoldable pub search_of : Settings → GrowParams → Bool → Search
search_of s p e = record { search_r = radius_of s p e; ambiguity_factor = p.attach_ambiguity_factor; rule = ChoiceRule.Unambiguous }

-- no candidate: a hole
abbrev pub missed : Cell → GrowState → GrowState
missed c s = record { sheet = hole_marked s.sheet c; queued = s.queued; made = s.made; counts = one_more (Err NotAttached.NoCandidates) s.counts }

-- what is found at a cell: no candidate and a refused edge mark a hole, an ambiguous choice marks ambiguous, and attaching clears nothing
-- and queues the cell's neighbours
unfoldable pub grow_with : Cell → TryCellResult → GrowState → GrowState
grow_with c (Err NotAttached.NoCandidates) s = missed c s
grow_with c (Err NotAttached.Ambiguous) s = record {
  sheet = ambiguous_marked s.sheet c;
  queued = s.queued;
  made = s.made;
  counts = one_more (Err NotAttached.Ambiguous) s.counts;
}
grow_with c (Err NotAttached.EdgeRejected) s = record {
  sheet = hole_marked s.sheet c;
  queued = s.queued;
  made = s.made;
  counts = one_more (Err NotAttached.EdgeRejected) s.counts;
}
grow_with c (Ok k) s = record {
  sheet = attached s.sheet c k;
  queued = spread (attached s.sheet c k) c s.queued;
  made = s.made ++ (place_of c ∷ []);
  counts = one_more (Ok k) s.counts;
}

-- a cell with a prediction is tried there; one with no labelled neighbour has no candidate
unfoldable pub grow_at : Corners → Settings → GrowParams → Cell → Option Position → GrowState → GrowState
grow_at cs set p c None s = missed c s
grow_at cs set p c (Some at) s =
    grow_with c (try_at cs s.sheet (tolerances_of set) (search_of set p (extrapolating (seen_of cs.corner s.sheet) c)) c at) s

unfoldable pub grow_visit : Corners → Settings → GrowParams → Cell → GrowState → GrowState
grow_visit cs set p c s = grow_at cs set p c (prediction_of (seen_of cs.corner s.sheet) set.grid c) s

-- ---- the run of the queue

-- at most m cells more, from number `head` of the queue on
unfoldable pub grow_from : Corners → Settings → GrowParams → ℕ → ℕ → GrowState → GrowState
grow_from cs set p zero head s = s
grow_from cs set p (suc m) head s =
    cond (ltb head (length s.queued)) (grow_from cs set p m (head + 1) (grow_visit cs set p (cell_of (get_or s.queued head 0)) s)) s

-- The whole run. Four places a corner are enough: by `Enough.NothingCutOff` no step is ever cut off.
unfoldable pub grow_run : Corners → Settings → GrowParams → List ℕ → GrowState
grow_run cs set p sheet = grow_from cs set p (4 * cs.count) 0 (start_of sheet)

-- what an accepted call answers and leaves
abbrev pub grow_left : GrowState → After GrowStats
grow_left s = record { answer = record { counts = s.counts; rim = rim 1 s.sheet }; sheet = s.sheet; attached = s.made; visited = s.queued }

unfoldable pub grow_after : Corners → Settings → GrowParams → List ℕ → After GrowStats
grow_after cs set p sheet = grow_left (grow_run cs set p sheet)
