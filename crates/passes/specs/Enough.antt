-- The step limit of `grow_run`, four cells a corner, cuts nothing off (01, "Frame and result": "4 queue places a corner"). `proofs/Enough.antt`
-- proves `NothingCutOff`. Definitions only.
use Rattle.std.specs.Prelude.{◌≡◌, List, ℕ, ◌+◌, ◌*◌, ◌<◌, ◌≤◌, length, get_or, Ok}
use Rattle.sheet.specs.Corners.{Corners}
use Rattle.arguments.specs.Shades.{corners_of}
use Rattle.sizes.specs.Sizes.{place_count}
use Rattle.arguments.specs.Arguments.{Lent, checked}
use Rattle.arguments.specs.declared.GrowParams.{GrowParams}
use Rattle.arguments.specs.declared.Pass.{Pass}
use Rattle.arguments.specs.declared.Settings.{Settings}
use Rattle.passes.specs.Grow.{GrowState, start_of, grow_from, grow_run}
use Rattle.passes.specs.declared.Counts.{Counts}

-- the cells that the counts speak of
abbrev pub tally : Counts → ℕ
tally n = n.attached + n.rejected_no_candidate + n.rejected_ambiguous + n.rejected_edge

-- Where a run of grow ends: every queued cell was visited and counted once; the queue holds at most four places a corner, all of them on the
-- sheet and no two equal; and there are at most as many new cells as corners.
pub record AllVisited (cs : Corners) (s : GrowState) : Type 0 where
  pub each_counted : tally s.counts ≡ length s.queued
  pub few : length s.queued ≤ 4 * cs.count
  pub on : (i : ℕ) → i < length s.queued → get_or s.queued i 0 < place_count
  pub once : (i j : ℕ) → i < j → j < length s.queued → get_or s.queued i 0 ≡ get_or s.queued j 0 → ⊥
  pub made_few : length s.made ≤ cs.count

-- the run of grow from a sheet visits all, and one that may take more steps leaves the same
pub record Enough (cs : Corners) (set : Settings) (p : GrowParams) (sheet : List ℕ) : Type 0 where
  pub same : (m : ℕ) → grow_from cs set p (4 * cs.count + m) 0 (start_of sheet) ≡ grow_run cs set p sheet
  pub all_visited : AllVisited cs (grow_run cs set p sheet)

-- so it is for every call of grow that the checks let pass
abbrev pub NothingCutOff : Type 0
NothingCutOff =
    (l : Lent) (set : Settings) (p : GrowParams) → checked l set (Pass.Grow p) ≡ Ok tt
    → Enough (corners_of l.corners l.shades) set p l.sheet
