-- Fill (document 01, "Sheet": "each round walks, by i then j, the unlabelled cells of the label box and one strip along each whole side";
-- shared/fill.rs). Definitions only.
use Rattle.std.specs.Prelude.{Bool, false, not, ◌&&◌, ◌||◌, List, [], ◌∷◌, ◌++◌, ℕ, zero, suc, max, length, ℤ, pos, ◌+ℤ◌, ◌-ℤ◌, Option, Some, None, Ok, Err}
use Rattle.std.specs.Int.Signed.{le_z}
use Rattle.std.specs.Float.{binary32}
use Rattle.std.specs.Float.Ieee.{mul}
use Rattle.sizes.specs.Sizes.{place_count}
use Rattle.sheet.specs.Cells.{place_of, cell_of}
use Rattle.sheet.specs.Words.{label_at, attached}
use Rattle.sheet.specs.Corners.{Corners, seen_of}
use Rattle.sheet.specs.declared.Cell.{Cell}
use Rattle.labels.specs.Labelled.{passing, names_corner, label_count}
use Rattle.labels.specs.Box.{box_of}
use Rattle.labels.specs.Rim.{rim}
use Rattle.labels.specs.declared.Bounds.{Bounds}
use Rattle.predict.specs.Predict.{prediction_of}
use Rattle.sheet.specs.declared.Position.{Position}
use Rattle.arguments.specs.declared.Settings.{Settings}
use Rattle.arguments.specs.declared.FillParams.{FillParams}
use Rattle.extension_common.specs.TryCell.{TryCellResult, try_at}
use Rattle.extension_common.specs.declared.ChoiceRule.{ChoiceRule}
use Rattle.extension_common.specs.declared.Search.{Search}
use Rattle.passes.specs.Outcome.{After}
use Rattle.passes.specs.Rounds.{RoundPass, one_round, Rounds, rounds_from}
use Rattle.passes.specs.Grow.{tolerances_of}
use Rattle.passes.specs.declared.FillStats.{FillStats}

-- ---- the cells of a round

-- from a to b, ends included
abbrev pub from_to : ℤ → ℤ → ℤ → Bool
from_to a b z = le_z a z && le_z z b

-- inside the box by i, or at most n lines past it
abbrev pub near_i : ℕ → Bounds → Cell → Bool
near_i n b c = from_to (b.low_i -ℤ pos n) (b.high_i +ℤ pos n) c.i

abbrev pub near_j : ℕ → Bounds → Cell → Bool
near_j n b c = from_to (b.low_j -ℤ pos n) (b.high_j +ℤ pos n) c.j

-- the box, and one strip along each whole side: the four corners past the box are left out
abbrev pub box_and_strips : Option Bounds → Cell → Bool
box_and_strips None c = false
box_and_strips (Some b) c = (near_i 0 b c && near_j 1 b c) || (near_i 1 b c && near_j 0 b c)

-- the cells that a round walks, by i then j: those of the region that are unlabelled
unfoldable pub cells_of : (Cell → Bool) → (Cell → Bool) → List ℕ
cells_of region labelled = passing (λ p. region (cell_of p) && not (labelled (cell_of p))) place_count

-- listed at the round's start
unfoldable pub fill_cells : List ℕ → List ℕ
fill_cells sheet = cells_of (box_and_strips (box_of sheet)) (λ c. names_corner (label_at sheet c))

-- ---- one cell

-- where fill stands: the sheet, and the new cells in order
pub record FillState : Type 0 where
  pub sheet : List ℕ
  pub made : List ℕ

unfoldable pub fill_search : Settings → FillParams → Search
fill_search s p = record {
  search_r = mul binary32 p.attach_search_rel s.grid.cell_size;
  ambiguity_factor = p.attach_ambiguity_factor;
  rule = ChoiceRule.WithFloor;
}

-- fill sets and clears no mark
unfoldable pub fill_with : Cell → TryCellResult → FillState → FillState
fill_with c (Err e) s = s
fill_with c (Ok k) s = record { sheet = attached s.sheet c k; made = s.made ++ (place_of c ∷ []) }

-- a cell with no labelled neighbour is passed over
unfoldable pub fill_at : Corners → Settings → FillParams → Cell → Option Position → FillState → FillState
fill_at cs set p c None s = s
fill_at cs set p c (Some at) s = fill_with c (try_at cs s.sheet (tolerances_of set) (fill_search set p) c at) s

unfoldable pub fill_visit : Corners → Settings → FillParams → Cell → FillState → FillState
fill_visit cs set p c s = fill_at cs set p c (prediction_of (seen_of cs.corner s.sheet) set.grid c) s

-- ---- rounds

-- fill as a pass that walks in rounds
abbrev pub fill_pass : Corners → Settings → FillParams → RoundPass FillState
fill_pass cs set p = record { cells = λ s. fill_cells s.sheet; visit = fill_visit cs set p; made = λ s. s.made }

unfoldable pub fill_round : Corners → Settings → FillParams → FillState → FillState
unfolding one_round
fill_round cs set p s = one_round (fill_pass cs set p) s

abbrev pub FillRounds : Type 0
FillRounds = Rounds FillState

-- at most m rounds more
unfoldable pub fill_from : Corners → Settings → FillParams → ℕ → FillRounds → FillRounds
unfolding rounds_from fill_round
fill_from cs set p m r = rounds_from (fill_pass cs set p) m r

-- "Fill's round limit 0 acts as 1"; under 1 label there is no round
unfoldable pub fill_limit : ℕ → ℕ → ℕ
fill_limit zero limit = 0
fill_limit (suc n) limit = max 1 limit

unfoldable pub fill_run : Corners → Settings → FillParams → List ℕ → FillRounds
fill_run cs set p sheet = fill_from cs set p (fill_limit (label_count sheet) p.max_iters) (record { state = record { sheet = sheet; made = [] }; rounds = 0 })

-- what an accepted call answers and leaves
abbrev pub fill_left : FillRounds → After FillStats
fill_left r = record {
  answer = record { added = length r.state.made; iterations = r.rounds; rim = rim 1 r.state.sheet };
  sheet = r.state.sheet;
  attached = r.state.made;
  visited = [];
}

unfoldable pub fill_after : Corners → Settings → FillParams → List ℕ → After FillStats
fill_after cs set p sheet = fill_left (fill_run cs set p sheet)
