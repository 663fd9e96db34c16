-- `passes_main::run_all` is safe and ends: the measure is the number of bytes that are left. Assumes nothing.
use Rattle.std.proofs.Common.{length}
use Rattle.passes_main.proofs.run_all.Given as goal

abbrev pub decreases-loop-rest : goal.decreases-loop-rest
decreases-loop-rest g l = length l.rest
