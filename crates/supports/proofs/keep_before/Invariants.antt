-- `supports::keep_before` meets its contract: of the places passed on the way back the nearest four are kept, and those not reached are farther. Assumes nothing.
use Rattle.std.specs.Iterator.Adapters.{rev_source}
use Rattle.std.specs.Slice.Iter.{iter_rest}
use Rattle.supports.proofs.Outward.{Backing}
use Rattle.supports.proofs.keep_before.Given as goal

abbrev pub invariant-loop-place : goal.invariant-loop-place
invariant-loop-place l = Backing l.places (iter_rest (rev_source l.place-iterator)) l.c l.kept
