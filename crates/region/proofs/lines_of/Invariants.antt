-- `region::lines_of` meets its contract: after some places their lines are marked. Assumes nothing.
use Rattle.std.proofs.Common.{◌≡◌, ℕ, ◌<◌, take}
use Rattle.sizes.specs.Sizes.{place_count}
use Rattle.region.specs.Region.{Lines}
use Rattle.region.proofs.lines_of.Given as goal

abbrev pub invariant-loop-place : goal.invariant-loop-place
invariant-loop-place g l = (f : ℕ → ℕ) → ((p r : ℕ) → p < place_count → goal.F-post g l.line p r → r ≡ f p) → Lines f (take l.place-index l.places) l.lines
