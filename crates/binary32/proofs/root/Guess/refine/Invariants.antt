-- `root::Guess::refine` meets its contract. The root lies from lo up and below hi, and each turn halves what is between. Assumes nothing.
use Prim.Native.Nat.{◌-◌}
use Rattle.binary32.specs.Steps.{Enclosed}
use Rattle.binary32.proofs.root.Guess.refine.Given as goal

abbrev pub invariant-loop-lo : goal.invariant-loop-lo
invariant-loop-lo l = Enclosed l.n l.lo l.hi

abbrev pub decreases-loop-lo : goal.decreases-loop-lo
decreases-loop-lo l = l.hi - l.lo
