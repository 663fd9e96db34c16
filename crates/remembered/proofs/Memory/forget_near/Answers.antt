-- `remembered::Memory::forget_near` meets its contract: at each place the words before it are done. Assumes nothing.
use mathlib.Core.Path.{refl}
use native.Mathlib.Omega.{arith}
use Rattle.remembered.proofs.Words.{forgetting_more, forgetting_skips, forgetting_end}
use Rattle.remembered.proofs.Memory.forget_near.Goals as goal

pub loop-place-preserved : goal.loop-place-preserved
loop-place-preserved c = forgetting_more (forgetting_skips c.loop-place.invariant c.in-Some.ensures.0) (omega arith) c.in-Some.ensures.1 c.left_of.ensures refl refl

pub returns : goal.returns
returns c = forgetting_end (forgetting_skips c.loop-place.invariant c.in_default.ensures) (omega arith)
