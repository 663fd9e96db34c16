-- What local's functions of a round and of all rounds ask and leave, in the terms of local's definition (crate passes, Local). Definitions only.
use Rattle.std.specs.Prelude.{◌≡◌, Bool, not, ◌&&◌, List, ℕ, ◌≤◌, get_or, None}
use Rattle.sheet.specs.Corners.{Corners}
use Rattle.labels.specs.Labelled.{is_labelled}
use Rattle.arguments.specs.declared.Settings.{Settings}
use Rattle.arguments.specs.declared.LocalExtensionParams.{LocalExtensionParams}
use Rattle.passes.specs.Counting.{no_counts, visits}
use Rattle.passes.specs.Local.{depth_of, LocalState, LocalRounds, local_visit, unmatched_if}
use Rattle.passes.specs.declared.LocalStats.{LocalStats}
use Rattle.region.specs.Region.{RegionFound, region_at}
use Rattle.region.specs.declared.Region.{Region}
use Rattle.region.specs.Windowed.{Windowed}
use Rattle.region.specs.Places.{place_visited}
use Rattle.local_cell.specs.Extending.{state_of}
use Rattle.local_cell.specs.Work.{Left}
use Rattle.local_cell.specs.declared.LocalProgress.{LocalProgress}
use Rattle.local_cell.specs.declared.LocalWork.{LocalWork}
use Rattle.local.specs.declared.Round.{Round}

-- ---- a round

-- a round that starts with a sheet
pub record RoundOf (sheet : List ℕ) (p : LocalExtensionParams) (round : Round) : Type 0 where
  pub found : RegionFound sheet round.region
  pub deep : round.depth ≡ depth_of p
  pub windowed : Windowed round.depth round.region.around round.window

-- the cell of a place is one that a round tries: it lies in the region and is unlabelled now
abbrev pub tried_at : ℕ → Region → List ℕ → ℕ → Bool
tried_at depth region sheet place = region_at depth region place && not (is_labelled (get_or sheet place 0))

-- a place looked at: its cell is tried if it lies in the region and is unlabelled now
abbrev pub looked_at : Corners → Settings → LocalExtensionParams → Region → ℕ → LocalState → LocalState
looked_at cs set p region place s = place_visited (local_visit cs set p) (λ t. t.sheet) (region_at (depth_of p) region place) place s

-- a round is to be done: all visits can be counted
pub record RoundAsked (work : LocalWork) : Type 0 where
  pub countable : visits work.progress.counts ≤ 4294950912

-- ---- all rounds

-- nothing done yet
abbrev pub no_progress : LocalProgress
no_progress = record { counts = no_counts; residual = None; unmatched = 0 }

abbrev pub start_of : List ℕ → List ℕ → LocalProgress → LocalRounds
start_of sheet list at = record { state = state_of sheet list at; rounds = 0 }

abbrev pub start_in : LocalWork → LocalRounds
start_in w = start_of w.sheet.now w.attached.now w.progress

-- all rounds are to be done, and nothing is done yet: the rounds are those of an accepted call
pub record RoundsAsked (work : LocalWork) : Type 0 where
  pub unstarted : work.progress ≡ no_progress
  pub rounds_few : work.setup.params.max_iters ≤ 64

-- what some rounds leave: the buffers hold the state after them, and the answer is how many rounds there were
pub record RoundsLeft (before after : LocalWork) (rounds : ℕ) (r : LocalRounds) : Type 0 where
  pub left : Left before after r.state
  pub rounds_are : rounds ≡ r.rounds

-- what the answer says of the rounds and of the rim, and, if any shade stands, of the corners passed over
abbrev pub stats_of : LocalProgress → ℕ → Bool → Bool → LocalStats
stats_of at rounds edge shaded =
    record {
      counts = at.counts;
      iterations = rounds;
      residual = at.residual;
      rim = edge;
      unmatched = unmatched_if shaded at.unmatched;
    }
