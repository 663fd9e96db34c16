-- `fill::Filling::fill_rounds` meets its contract: after each round the rounds that are left lead to the same end. Assumes nothing.
use Rattle.fill.proofs.Rounds.{Rounding}
use Rattle.fill.proofs.Filling.fill_rounds.Given as goal

abbrev pub invariant-loop-walked : goal.invariant-loop-walked
invariant-loop-walked l = Rounding l.limit l.fn.self l.self l.walked
