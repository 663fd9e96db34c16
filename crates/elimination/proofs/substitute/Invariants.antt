-- `elimination::substitute` meets its contract. The loop's invariant: the answers from row k on are carried. Assumes nothing.
use mathlib.Core.Path.{◌≡◌}
use Prim.Native.Nat.{◌-◌}
use Rattle.elimination.specs.Solve.{answered}
use Rattle.elimination.proofs.substitute.Given as goal

abbrev pub invariant-loop-k : goal.invariant-loop-k
invariant-loop-k l = l.b ≡ answered (8 - l.k) l.m
