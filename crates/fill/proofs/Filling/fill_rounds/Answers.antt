-- `fill::Filling::fill_rounds` meets its contract. Assumes nothing.
use native.Mathlib.Omega.{arith}
use Rattle.fill.proofs.Rounds.{rounding_start, rounding_last, rounding_more, rounding_end}
use Rattle.fill.proofs.Filling.fill_rounds.Goals as goal

pub loop-walked-init : goal.loop-walked-init
loop-walked-init c = rounding_start _ c.args.self.now

pub returns-then-self-before : goal.returns-then-self-before
returns-then-self-before c = rounding_last _ _ c.loop-walked.invariant (omega arith) c.fill_round.ensures c.if-self-before.true

pub loop-walked-preserved : goal.loop-walked-preserved
loop-walked-preserved c = rounding_more _ _ c.loop-walked.invariant (omega arith) c.fill_round.ensures c.if-self-before.false

pub returns : goal.returns
returns c = rounding_end _ _ c.loop-walked.invariant (omega arith)
