-- `write::write_decimal` meets its contract. The invariant: the digits that are still to be written and the part behind them make the text. Assumes nothing.
use Rattle.line_form.proofs.Writing.{Placing}
use Rattle.line_form.proofs.write.write_decimal.Given as goal

abbrev pub invariant-loop-i : goal.invariant-loop-i
invariant-loop-i l = Placing l.n l.initial.out l.out l.m l.i
