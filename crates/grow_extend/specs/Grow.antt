-- Grow as the code holds it: what is found at a cell, where grow stands in the lent buffers, and what the
-- functions ask and leave. Definitions only.
use Rattle.sheet.specs.declared.Position.{Position}
use Rattle.std.specs.Prelude.{◌≡◌, false, List, ℕ, ◌+◌, ◌*◌, ◌<◌, ◌≤◌, length, take, Option, Some, None, Ok, Err}
use Rattle.sheet.specs.Cells.{OnSheet}
use Rattle.sheet.specs.Words.{label_at}
use Rattle.sheet.specs.Corners.{Corners, seen_of, corners_in}
use Rattle.sheet.specs.declared.Cell.{Cell}
use Rattle.labels.specs.Labelled.{Attaching}
use Rattle.labels.specs.Rim.{rim}
use Rattle.labels.specs.Used.{used_on, OneCell}
use Rattle.predict.specs.Predict.{prediction_of, extrapolating}
use Rattle.arguments.specs.declared.GrowParams.{GrowParams}
use Rattle.arguments.specs.declared.Settings.{Settings}
use Rattle.extension_common.specs.TryCell.{TryCellResult, try_at}
use Rattle.extension_common.specs.declared.NotAttached.{NotAttached}
use Rattle.passes.specs.Grow.{GrowState, no_counts, tolerances_of, search_of}
use Rattle.passes.specs.declared.Counts.{Counts}
use Rattle.passes.specs.declared.GrowStats.{GrowStats}
use Rattle.grow_queue.specs.Queue.{queued}
use Rattle.grow_queue.specs.declared.Queue.{Queue}
use Rattle.arguments.specs.Front.{over}
use Rattle.grow_extend.specs.declared.Growing.{Growing}

-- ---- what is found at a cell

-- a cell with a prediction is tried there; one with no labelled neighbour has no candidate
unfoldable pub found_from : Corners → Settings → GrowParams → List ℕ → Cell → Option Position → TryCellResult
found_from cs set p sheet c None = Err NotAttached.NoCandidates
found_from cs set p sheet c (Some at) = try_at cs sheet (tolerances_of set) (search_of set p (extrapolating (seen_of cs.corner sheet) c)) c at

unfoldable pub found_at : Corners → Settings → GrowParams → List ℕ → Cell → TryCellResult
found_at cs set p sheet c = found_from cs set p sheet c (prediction_of (seen_of cs.corner sheet) set.grid c)

-- ---- the counts

-- counts of at most 4,096 cells, four a corner
pub record SmallCounts (n : Counts) : Type 0 where
  pub attached_small : n.attached ≤ 4096
  pub no_candidate_small : n.rejected_no_candidate ≤ 4096
  pub ambiguous_small : n.rejected_ambiguous ≤ 4096
  pub edge_small : n.rejected_edge ≤ 4096

-- ---- where grow stands

-- the corners that a run holds
abbrev pub held : Growing → Corners
held g = corners_in g.corners.now

-- the state that a run and its queue hold: the sheet, the cells queued so far, as many of the attached list as are counted, and the counts
abbrev pub state_of : Growing → Queue → GrowState
state_of g q = record { sheet = g.sheet.now; queued = queued q; made = take g.counts.attached g.attached.now; counts = g.counts }

-- what is said of it
abbrev pub stats_of : Growing → GrowStats
stats_of g = record { counts = g.counts; rim = rim 1 g.sheet.now }

-- a run on the same corners and buffers, searched alike
pub record SameRun (before after : Growing) : Type 0 where
  pub same_corners : after.corners ≡ before.corners
  pub same_setup : after.setup ≡ before.setup
  pub same_sheet : after.sheet.ghost_name ≡ before.sheet.ghost_name
  pub same_list : after.attached.ghost_name ≡ before.attached.ghost_name

-- What is left of a run's buffers: the state's sheet, its queued and its new cells at the front of the queue and the attached list, and the rest
-- as it was.
pub record Left (before : Growing) (queue : Queue) (after : Growing) (queue' : Queue) (s : GrowState) : Type 0 where
  pub same : SameRun before after
  pub same_queue : queue'.places.ghost_name ≡ queue.places.ghost_name
  pub sheet_is : after.sheet.now ≡ s.sheet
  pub queue_is : queue'.places.now ≡ over s.queued queue.places.now
  pub attached_is : after.attached.now ≡ over s.made before.attached.now
  pub tail_is : queue'.tail ≡ length s.queued
  pub counts_are : after.counts ≡ s.counts

-- and as many cells of the queue are taken as before
pub record Leaves (before : Growing) (queue : Queue) (after : Growing) (queue' : Queue) (s : GrowState) : Type 0 where
  pub left : Left before queue after queue' s
  pub head_same : queue'.head ≡ queue.head

-- ---- what the functions ask

-- room for a corner more: four places in the queue and one in the attached list
pub record Spare (g : Growing) (q : Queue) : Type 0 where
  pub queue_room : q.tail + 4 ≤ length q.places.now
  pub attached_room : g.counts.attached < length g.attached.now

-- a corner that may be attached to a cell
pub record Attachable (g : Growing) (q : Queue) (c : Cell) (k : ℕ) : Type 0 where
  pub attaching : Attaching g.sheet.now c k
  pub known : k < g.corners.now.count.number
  pub spare : Spare g q
  pub small : SmallCounts g.counts

-- a cell of the sheet, and what was found there
pub record Settleable (g : Growing) (q : Queue) (c : Cell) (found : TryCellResult) : Type 0 where
  pub on : OnSheet c
  pub small : SmallCounts g.counts
  pub to_attach : (k : ℕ) → found ≡ Ok k → Attachable g q c k

-- an unlabelled cell of the sheet, and room for a corner as long as there is one that no cell holds
pub record Visitable (g : Growing) (q : Queue) (c : Cell) : Type 0 where
  pub on : OnSheet c
  pub bare : label_at g.sheet.now c ≡ None
  pub small : SmallCounts g.counts
  pub spare : (k : ℕ) → k < g.corners.now.count.number → used_on g.sheet.now k ≡ false → Spare g q

-- what an accepted call lends
pub record Startable (g : Growing) (q : Queue) : Type 0 where
  pub one_cell : OneCell g.sheet.now
  pub queue_long : 4 * g.corners.now.count.number ≤ length q.places.now
  pub attached_long : g.corners.now.count.number ≤ length g.attached.now
  pub none_queued : q.tail ≡ 0
  pub none_taken : q.head ≡ 0
  pub none_counted : g.counts ≡ no_counts
