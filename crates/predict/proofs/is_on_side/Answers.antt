-- `predict::is_on_side` meets its contract, side by side; the machine reads the cells' numbers as they are. Assumes nothing.
use mir.Syntax.{w32}
use mir.Val.{SFits}
use mir.Facts.{to_z-of_z}
use borrow.Author.Rules.{rules}
use Rattle.predict.specs.Predict.{on_side}
use Rattle.predict.proofs.is_on_side.Goals as goal

pub returns-in-MinusI : goal.returns-in-MinusI
unfolding on_side
returns-in-MinusI c = let a = c.args in
    let f : SFits w32 a.at.i = search rules in
    let g : SFits w32 a.c.i = search rules in
    rw (to_z-of_z f, to_z-of_z g, c.in-MinusI.is)

pub returns-in-PlusI : goal.returns-in-PlusI
unfolding on_side
returns-in-PlusI c = let a = c.args in
    let f : SFits w32 a.at.i = search rules in
    let g : SFits w32 a.c.i = search rules in
    rw (to_z-of_z f, to_z-of_z g, c.in-PlusI.is)

pub returns-in-MinusJ : goal.returns-in-MinusJ
unfolding on_side
returns-in-MinusJ c = let a = c.args in
    let f : SFits w32 a.at.j = search rules in
    let g : SFits w32 a.c.j = search rules in
    rw (to_z-of_z f, to_z-of_z g, c.in-MinusJ.is)

pub returns-in-PlusJ : goal.returns-in-PlusJ
unfolding on_side
returns-in-PlusJ c = let a = c.args in
    let f : SFits w32 a.at.j = search rules in
    let g : SFits w32 a.c.j = search rules in
    rw (to_z-of_z f, to_z-of_z g, c.in-PlusJ.is)

pub returns-in-Any : goal.returns-in-Any
unfolding on_side
returns-in-Any c = search rules
