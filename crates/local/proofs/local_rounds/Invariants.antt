-- `local::local_rounds` meets its contract: after each round the rounds that are left lead to the same end, and what is remembered holds. Assumes nothing.
use Rattle.local_cell.specs.Work.{held, SamePass, RecallsIn}
use Rattle.local.proofs.Rounds.{Rounding}
use Rattle.local.proofs.local_rounds.Given as goal

abbrev pub invariant-loop-rounds : goal.invariant-loop-rounds
invariant-loop-rounds l =
    Rounding l.fn.work.setup.settings l.fn.work.setup.params l.limit (held l.fn.work) l.fn.work l.work l.rounds
    × RecallsIn l.work
    × SamePass l.fn.work l.work
