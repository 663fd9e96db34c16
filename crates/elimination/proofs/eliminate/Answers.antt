-- `elimination::eliminate` meets its contract. Assumes nothing.
use mathlib.Core.Path.{sym}
use Rattle.elimination.proofs.Rows.{eliminated_zero, next_column}
use Rattle.elimination.proofs.eliminate.Goals as goal

pub returns : goal.returns
returns c =
    let e1 = next_column 0 _ _ _ (sym (eliminated_zero _)) c.column.ensures in
    let e2 = next_column 1 _ _ _ e1 c.column-2.ensures in
    let e3 = next_column 2 _ _ _ e2 c.column-3.ensures in
    let e4 = next_column 3 _ _ _ e3 c.column-4.ensures in
    let e5 = next_column 4 _ _ _ e4 c.column-5.ensures in
    let e6 = next_column 5 _ _ _ e5 c.column-6.ensures in
    let e7 = next_column 6 _ _ _ e6 c.column-7.ensures in
    next_column 7 _ _ _ e7 c.column-8.ensures
