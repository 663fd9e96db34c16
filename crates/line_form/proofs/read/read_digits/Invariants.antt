-- `read::read_digits` meets its contract. The invariant: the digits that are left, after the number that was read and cut, give the answer. Assumes nothing.
use Rattle.line_form.proofs.Reading.{Counting}
use Rattle.line_form.proofs.read.read_digits.Given as goal

abbrev pub invariant-loop-i : goal.invariant-loop-i
invariant-loop-i l = Counting l.text l.value l.i
