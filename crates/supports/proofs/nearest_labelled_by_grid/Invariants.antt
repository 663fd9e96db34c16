-- `supports::nearest_labelled_by_grid` meets its contract: after some places the nearest four of these are kept, and those not reached are no nearer. Assumes nothing.
use Prim.Native.Nat.{◌+◌}
use lib.ListN.{take}
use Rattle.supports.specs.Nearest.{Keeping}
use Rattle.supports.proofs.nearest_labelled_by_grid.Given as goal

abbrev pub invariant-loop-place : goal.invariant-loop-place
invariant-loop-place l = Keeping l.c l.kept (take (l.start + l.place-index) l.places)
