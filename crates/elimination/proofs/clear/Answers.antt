-- `elimination::clear` meets its contract. The loop's invariant: the rows passed have gained, and the others are as they were. Assumes nothing.
use Rattle.std.proofs.Common.{arith}
use Rattle.elimination.proofs.Rows.{below_start, below_more, below_end}
use Rattle.elimination.proofs.clear.Goals as goal

pub loop-row-init : goal.loop-row-init
loop-row-init c = below_start _ _ c.told-m c.requires

pub loop-row-preserved : goal.loop-row-preserved
loop-row-preserved c = below_more c.loop-row.invariant (omega (arith, c.loop-row-test.true, c.loop-row.auto.row-items)) c.gain.ensures

pub returns : goal.returns
returns c = below_end c.loop-row.invariant (omega (arith, c.loop-row-test.false, c.loop-row.auto.row-items))
