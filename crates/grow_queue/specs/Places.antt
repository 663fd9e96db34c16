-- The places of grow's queue, and the array that says which they are. Definitions only.
use Rattle.std.specs.Prelude.{◌≡◌, Bool, false, List, ℕ, ◌+◌, ◌<◌, ◌≤◌, length, get_or, take}
use Rattle.sizes.specs.Sizes.{place_count}
use Rattle.passes.specs.Grow.{member}
use Rattle.arguments.specs.Front.{over}

-- the cells queued so far: the first `tail` places of the queue
abbrev pub so_far : List ℕ → ℕ → List ℕ
so_far queue tail = take tail queue

-- an array in step with the queue: entry p says whether the place p was queued
pub record Flagged (queued : List ℕ) (seen : List Bool) : Type 0 where
  pub size : length seen ≡ place_count
  pub at : (p : ℕ) → p < place_count → get_or seen p false ≡ member p queued

-- the queue holds places of the sheet
pub record OnPlaces (queued : List ℕ) : Type 0 where
  pub below : (i : ℕ) → i < length queued → get_or queued i 0 < place_count

-- room in a lent buffer for n cells more behind its first `tail` places, and the array in step with these
pub record PlacesRoom (n : ℕ) (sheet queue : List ℕ) (seen : List Bool) (tail : ℕ) : Type 0 where
  pub long : place_count ≤ length sheet
  pub room : tail + n ≤ length queue
  pub flagged : Flagged (so_far queue tail) seen

-- what the buffer is left with: these cells at its front, r in number, the rest as it was, and the array in step
pub record PlacesHeld (queue after : List ℕ) (seen : List Bool) (r : ℕ) (cells : List ℕ) : Type 0 where
  pub written : after ≡ over cells queue
  pub count : r ≡ length cells
  pub flagged : Flagged cells seen
