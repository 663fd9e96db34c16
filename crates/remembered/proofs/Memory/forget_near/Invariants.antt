-- `remembered::Memory::forget_near` meets its contract: at each place the words before it are done. Assumes nothing.
use Prim.Native.Nat.{◌-◌}
use Rattle.remembered.proofs.Words.{Forgetting}
use Rattle.remembered.proofs.Memory.forget_near.Given as goal

abbrev pub invariant-loop-place : goal.invariant-loop-place
invariant-loop-place l = Forgetting l.initial.self l.fn.c l.fn.corner l.self l.from

abbrev pub decreases-loop-place : goal.decreases-loop-place
decreases-loop-place l = 16384 - l.from
