-- `fill::Filling::fill_round` meets its contract: at each place the buffers hold what the round's list leaves after the places passed; those out of the
-- window are jumped over. Assumes nothing.
use Rattle.region.specs.Windowed.{Windowed}
use Rattle.fill.proofs.Walk.{Walking}
use Rattle.fill.proofs.Filling.fill_round.Given as goal

abbrev pub invariant-loop-place : goal.invariant-loop-place
invariant-loop-place l = record {
  windowed : Windowed 1 l.fn.self.around l.place-iterator.window;
  walking : Walking l.fn.self l.self l.place-iterator.from;
}
