-- `elimination::gain` meets its contract. The loop's invariant: the columns up to k are as they were, and those passed have gained. Assumes nothing.
use Rattle.elimination.proofs.Rows.{gain_end}
use Rattle.elimination.proofs.gain.Goals as goal

pub returns : goal.returns
returns c = gain_end c.loop-j.invariant c.loop-j-test.false
