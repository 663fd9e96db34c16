-- `sheet::walk::Written::next` meets its contract: the next place that holds something comes first of what is left. Assumes nothing.
use mathlib.Core.Path.{ap}
use lib.ListN.{length}
use native.Mathlib.Omega.{arith}
use Rattle.sheet.specs.Blank.{written_rest}
use Rattle.sheet.proofs.Blank.{written_next, written_none}
use borrow.Author.Rules.{rules}
use Rattle.sheet.proofs.walk.WrittenIterator.next.Goals as goal

pub returns-in_err-place-clause-steps : goal.returns-in_err-place-clause-steps
unfolding written_rest
returns-in_err-place-clause-steps c = let e = written_none _ c.in_err-place.ensures (omega arith) in rw c.from_residual.ensures (e, e)

pub returns-clause-steps : goal.returns-clause-steps
unfolding written_rest
returns-clause-steps c = let w = c.in_ok-place.ensures in written_next _ w.0 w.1

pub returns-clause-goes : goal.returns-clause-goes
unfolding written_rest
returns-clause-goes c =
    let w = c.in_ok-place.ensures in
    let e = ap length (written_next _ w.0 w.1) in
    search (rules, e)
