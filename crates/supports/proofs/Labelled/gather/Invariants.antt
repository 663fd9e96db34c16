-- `supports::Labelled::gather` meets its contract: the places that have come so far are listed. Assumes nothing.
use mathlib.Core.Path.{◌≡◌}
use lib.ListN.{length}
use Rattle.arguments.specs.Front.{over}
use Rattle.supports.proofs.Listing.{places_in}
use Rattle.supports.proofs.Labelled.gather.Given as goal

abbrev pub invariant-loop-place : goal.invariant-loop-place
invariant-loop-place l = (l.count ≡ length l.yielded) × (l.self.places ≡ over (places_in l.yielded) l.initial.self.places)
