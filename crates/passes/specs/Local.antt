-- Local (document 01, "Sheet": "the box, strips of the depth on labelled rows and columns only, and four corner blocks. Supports are the 4
-- nearest by |di|+|dj|, then i, then j."; shared/extension/local.rs; document 02, 1/14: what it passes over). Definitions only.
use Rattle.sheet.specs.declared.Corner.{Corner}
use Rattle.std.specs.Prelude.{Bool, true, false, not, ◌&&◌, ◌||◌, cond, List, [], ◌∷◌, ◌++◌, map, ℕ, ◌+◌, max, eqb, ltb, take, ℤ, Some, None, Float, Option, Ok, Err}
use Rattle.std.specs.Float.{nan, binary32}
use Rattle.std.specs.Float.Ieee.{of_bits, of_int, mul, lt}
use Rattle.binary32.specs.Ranges.{all_finite}
use Rattle.binary32.specs.Sqrt.{sqrt_or_nan}
use Rattle.sheet.specs.Cells.{place_of, cell_of, difference_of, magnitude_of, eq_z, earlier}
use Rattle.sheet.specs.Words.{label_at, attached, marks_cleared}
use Rattle.sheet.specs.Corners.{Corners, seen_of, squared_distance}
use Rattle.sheet.specs.declared.Cell.{Cell}
use Rattle.sheet.specs.declared.Position.{Position}
use Rattle.labels.specs.Labelled.{names_corner, labelled_places, label_count}
use Rattle.labels.specs.Box.{box_of}
use Rattle.labels.specs.Rim.{rim}
use Rattle.labels.specs.declared.Bounds.{Bounds}
use Rattle.homography.specs.Fit.{Answer, homography_of, applied}
use Rattle.arguments.specs.declared.Settings.{Settings}
use Rattle.arguments.specs.declared.LocalExtensionParams.{LocalExtensionParams}
use Rattle.extension_common.specs.TryCell.{TryCellResult, unmatched, try_at}
use Rattle.extension_common.specs.declared.ChoiceRule.{ChoiceRule}
use Rattle.extension_common.specs.declared.Search.{Search}
use Rattle.passes.specs.Outcome.{After}
use Rattle.passes.specs.Rounds.{RoundPass, walk, one_round, Rounds, rounds_from}
use Rattle.passes.specs.Counting.{no_counts, one_more}
use Rattle.passes.specs.Grow.{tolerances_of}
use Rattle.passes.specs.Fill.{near_i, near_j, cells_of}
use Rattle.passes.specs.declared.Counts.{Counts}
use Rattle.passes.specs.declared.LocalStats.{LocalStats}

-- "Depth 0 acts as 1", for the rim too
unfoldable pub depth_of : LocalExtensionParams → ℕ
depth_of p = max 1 p.extend_depth

-- ---- the cells of a round

-- a row (a j) or a column (an i) in which one of some cells, given by their places, lies
unfoldable pub row_among : List ℕ → ℤ → Bool
row_among [] j = false
row_among (p ∷ ps) j = eq_z (cell_of p).j j || row_among ps j

unfoldable pub column_among : List ℕ → ℤ → Bool
column_among [] i = false
column_among (p ∷ ps) i = eq_z (cell_of p).i i || column_among ps i

-- past the box by i, or by j, by at most the depth
abbrev pub past_i : ℕ → Bounds → Cell → Bool
past_i depth b c = near_i depth b c && not (near_i 0 b c)

abbrev pub past_j : ℕ → Bounds → Cell → Bool
past_j depth b c = near_j depth b c && not (near_j 0 b c)

-- the box, strips of the depth on labelled rows and columns only, and four corner blocks; the labelled cells are given by their places
unfoldable pub local_region : ℕ → List ℕ → Option Bounds → Cell → Bool
local_region depth labelled None c = false
local_region depth labelled (Some b) c =
    (near_i 0 b c && near_j 0 b c)
    || ((past_i depth b c && row_among labelled c.j)
    || ((past_j depth b c && column_among labelled c.i)
    || (past_i depth b c && past_j depth b c)))

-- listed at the round's start, by i then j
unfoldable pub local_cells : ℕ → List ℕ → List ℕ
local_cells depth sheet = cells_of (local_region depth (labelled_places sheet) (box_of sheet)) (λ c. names_corner (label_at sheet c))

-- ---- supports

-- |di|+|dj| from a cell to the cell of a place
abbrev pub reach_of : Cell → ℕ → ℕ
reach_of c p = magnitude_of (difference_of (cell_of p) c)

-- the one place is nearer to the cell than the other: by |di|+|dj|, then i, then j
unfoldable pub nearer : Cell → ℕ → ℕ → Bool
nearer c p q = ltb (reach_of c p) (reach_of c q) || (eqb (reach_of c p) (reach_of c q) && earlier (cell_of p) (cell_of q))

-- into a list that is in that order
unfoldable pub placed : Cell → ℕ → List ℕ → List ℕ
placed c p [] = p ∷ []
placed c p (q ∷ qs) = cond (nearer c p q) (p ∷ q ∷ qs) (q ∷ placed c p qs)

-- all of some places, in that order
unfoldable pub by_reach : Cell → List ℕ → List ℕ
by_reach c [] = []
by_reach c (p ∷ ps) = placed c p (by_reach c ps)

-- "Supports are the 4 nearest"
unfoldable pub supports_of : Cell → List ℕ → List ℕ
supports_of c sheet = take 4 (by_reach c (labelled_places sheet))

-- ---- the fit on the supports

-- a cell as a point
unfoldable pub cell_point : Cell → Position
cell_point c = record { x = of_int binary32 c.i; y = of_int binary32 c.j }

-- the pictured corner of a labelled cell
abbrev pub pictured_as : Option Corner → Position
pictured_as None = record { x = nan; y = nan }
pictured_as (Some corner) = corner.position

unfoldable pub pictured_at : (Cell → Option Corner) → ℕ → Position
pictured_at seen p = pictured_as (seen (cell_of p))

-- how far the fit maps a support from its pictured corner
unfoldable pub residual_of : List Float → Position → Position → Float
residual_of h cell corner = sqrt_or_nan (squared_distance (applied h cell) corner)

unfoldable pub residuals_of : (Cell → Option Corner) → List Float → List ℕ → List Float
residuals_of seen h ps = map (λ p. residual_of h (cell_point (cell_of p)) (pictured_at seen p)) ps

-- what the supports of a cell give: no fit, or the nine entries and the residuals
pub data LocalFit : Type 0 where
  none : LocalFit
  fitted : List Float → List Float → LocalFit

-- "a non-finite support residual means no fit, and its residuals aren't recorded"
unfoldable pub trusted : (Cell → Option Corner) → List ℕ → Answer → LocalFit
trusted seen ps None = none
trusted seen ps (Some h) = cond (all_finite (residuals_of seen h ps)) (fitted h (residuals_of seen h ps)) none

unfoldable pub local_fit : (Cell → Option Corner) → List ℕ → LocalFit
local_fit seen ps = trusted seen ps (homography_of (map (λ p. cell_point (cell_of p)) ps) (map (pictured_at seen) ps))

-- ---- one cell

-- where local stands: the sheet, the new cells in order, the counts, the largest residual recorded, and how many corners were passed over
pub record LocalState : Type 0 where
  pub sheet : List ℕ
  pub made : List ℕ
  pub counts : Counts
  pub largest : Option Float
  pub unmatched : ℕ

-- the largest of some residuals, from 0 on
unfoldable pub worst : Float → List Float → Float
worst m [] = m
worst m (r ∷ rs) = worst (cond (lt m r) r m) rs

-- one residual more, and some
unfoldable pub recorded : Option Float → Float → Option Float
recorded None r = Some r
recorded (Some m) r = Some (cond (lt m r) r m)

unfoldable pub recorded_all : Option Float → List Float → Option Float
recorded_all l [] = l
recorded_all l (r ∷ rs) = recorded_all (recorded l r) rs

abbrev pub with_residuals : List Float → LocalState → LocalState
with_residuals rs s =
    record { sheet = s.sheet; made = s.made; counts = s.counts; largest = recorded_all s.largest rs; unmatched = s.unmatched }

-- "Each time local gathers, it counts each unlabelled corner within the radius so passed over" (document 02, 1/14)
abbrev pub with_unmatched : ℕ → LocalState → LocalState
with_unmatched n s = record { sheet = s.sheet; made = s.made; counts = s.counts; largest = s.largest; unmatched = s.unmatched + n }

unfoldable pub local_search : Settings → LocalExtensionParams → Search
local_search s p = record {
  search_r = mul binary32 p.search_rel s.grid.cell_size;
  ambiguity_factor = p.ambiguity_factor;
  rule = ChoiceRule.WithFloor;
}

-- the residual gate scales the cell size
abbrev pub gate_of : Settings → LocalExtensionParams → Float
gate_of s p = mul binary32 p.max_residual_rel s.grid.cell_size

-- one cell more is counted
abbrev pub counted : TryCellResult → LocalState → LocalState
counted r s = record { sheet = s.sheet; made = s.made; counts = one_more r s.counts; largest = s.largest; unmatched = s.unmatched }

-- local sets no mark; attaching clears both of its cell
unfoldable pub local_with : Cell → TryCellResult → LocalState → LocalState
local_with c (Err e) s = counted (Err e) s
local_with c (Ok k) s = record {
  sheet = marks_cleared (attached s.sheet c k) c;
  made = s.made ++ (place_of c ∷ []);
  counts = one_more (Ok k) s.counts;
  largest = s.largest;
  unmatched = s.unmatched;
}

-- local gathers at a cell's prediction: what is passed over is counted, and the cell is tried
unfoldable pub local_try : Corners → Settings → LocalExtensionParams → Cell → Position → LocalState → LocalState
local_try cs set p c at s =
    local_with c (try_at cs s.sheet (tolerances_of set) (local_search set p) c at)
    (with_unmatched (unmatched cs s.sheet (local_search set p).search_r c at) s)

-- "No fit, or a residual above the gate, counts nothing; the gate's residuals are recorded"
unfoldable pub local_at : Corners → Settings → LocalExtensionParams → Cell → LocalFit → LocalState → LocalState
local_at cs set p c none s = s
local_at cs set p c (fitted h rs) s =
    cond (lt (gate_of set p) (worst (of_bits binary32 0) rs)) (with_residuals rs s) (local_try cs set p c (applied h (cell_point c)) (with_residuals rs s))

unfoldable pub local_visit : Corners → Settings → LocalExtensionParams → Cell → LocalState → LocalState
local_visit cs set p c s = local_at cs set p c (local_fit (seen_of cs.corner s.sheet) (supports_of c s.sheet)) s

-- ---- rounds

-- local as a pass that walks in rounds
abbrev pub local_pass : Corners → Settings → LocalExtensionParams → RoundPass LocalState
local_pass cs set p = record { cells = λ s. local_cells (depth_of p) s.sheet; visit = local_visit cs set p; made = λ s. s.made }

-- some cells, one after the other
unfoldable pub local_all : Corners → Settings → LocalExtensionParams → List ℕ → LocalState → LocalState
unfolding walk
local_all cs set p qs s = walk (local_visit cs set p) qs s

unfoldable pub local_round : Corners → Settings → LocalExtensionParams → LocalState → LocalState
unfolding one_round local_all
local_round cs set p s = one_round (local_pass cs set p) s

abbrev pub LocalRounds : Type 0
LocalRounds = Rounds LocalState

-- at most m rounds more
unfoldable pub local_from : Corners → Settings → LocalExtensionParams → ℕ → LocalRounds → LocalRounds
unfolding rounds_from local_round
local_from cs set p m r = rounds_from (local_pass cs set p) m r

-- "local's 0 does none"; under 4 labels there is no round
unfoldable pub local_limit : ℕ → ℕ → ℕ
local_limit labels limit = cond (ltb labels 4) 0 limit

unfoldable pub local_run : Corners → Settings → LocalExtensionParams → List ℕ → LocalRounds
local_run cs set p sheet =
    local_from cs set p (local_limit (label_count sheet) p.max_iters)
    (record { state = record { sheet = sheet; made = []; counts = no_counts; largest = None; unmatched = 0 }; rounds = 0 })

-- "if any shade stands", how many
unfoldable pub unmatched_if : Bool → ℕ → Option ℕ
unmatched_if false n = None
unmatched_if true n = Some n

abbrev pub local_left : Bool → ℕ → LocalRounds → After LocalStats
local_left shaded depth r = record {
  answer =
      record {
        counts = r.state.counts;
        iterations = r.rounds;
        residual = r.state.largest;
        rim = rim depth r.state.sheet;
        unmatched = unmatched_if shaded r.state.unmatched;
      };
  sheet = r.state.sheet;
  attached = r.state.made;
  visited = [];
}

unfoldable pub local_after : Corners → Settings → LocalExtensionParams → List ℕ → After LocalStats
local_after cs set p sheet = local_left cs.shades.any (depth_of p) (local_run cs set p sheet)
