-- `elimination::carry` meets its contract. The loop's invariant: the right sides passed are carried on, and the others are as they were. Assumes nothing.
use native.Mathlib.Omega.{arith}
use Rattle.std.proofs.lemmas.List.{length-take-le}
use Rattle.elimination.proofs.Rows.{carry_start, carry_more, carry_end}
use Rattle.elimination.proofs.carry.Goals as goal

pub loop-i-init : goal.loop-i-init
loop-i-init c = carry_start _ _ _ c.told-b c.requires

pub loop-i-preserved : goal.loop-i-preserved
loop-i-preserved c =
    let e = length-take-le c.args.k c.args.b.now (omega (arith, c.told-b, c.requires)) in
    carry_more c.loop-i.invariant (omega (arith, e, c.loop-i-test.true))

pub returns : goal.returns
returns c =
    let e = length-take-le c.args.k c.args.b.now (omega (arith, c.told-b, c.requires)) in
    carry_end c.loop-i.invariant (omega (arith, e, c.loop-i-test.false))
