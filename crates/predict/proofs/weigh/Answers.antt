-- `predict::weigh` meets its contract: both casts are of small numbers, and the operations are the definition's. Assumes nothing.
use mir.Syntax.{w32}
use mir.Val.{SFits}
use mir.Facts.{to_z-of_z}
use borrow.Author.Rules.{rules}
use Rattle.predict.specs.Predict.{weighed}
use Rattle.predict.proofs.weigh.Goals as goal

pub returns : goal.returns
unfolding weighed
returns c =
    let o = c.args.o in
    let f : SFits w32 o.di = search rules in
    let g : SFits w32 o.dj = search rules in
    rw (to_z-of_z f, to_z-of_z g)
