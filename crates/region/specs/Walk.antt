-- A walk over the places of a window: where it starts, and what a call of `next` gives. Definitions only.
use Rattle.std.specs.Prelude.{◌≡◌, ℕ, ◌+◌, ◌<◌, Option, Some, None}
use Rattle.sizes.specs.Sizes.{place_count}
use Rattle.region.specs.Windowed.{NextIn}
use Rattle.region.specs.declared.Window.{Window}
use Rattle.region.specs.declared.walk.Inside.{Inside}

-- a walk over a window that goes on from a place
pub record At (w : Window) (n : ℕ) (walk : Inside) : Type 0 where
  pub window_is : walk.window ≡ w
  pub from_is : walk.from ≡ n

-- at the first place of the sheet
abbrev pub Starts : Window → Inside → Type 0
Starts w walk = At w 0 walk

-- the next place in the window comes, and the walk goes on behind it; or none is left
abbrev pub Goes : Inside → Option ℕ → Inside → Type 0
Goes before (Some r) after = NextIn before.window before.from r × (r < place_count) × At before.window (r + 1) after
Goes before None after = NextIn before.window before.from place_count
