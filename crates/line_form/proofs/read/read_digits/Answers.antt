-- `read::read_digits` meets its contract. The invariant: the digits that are left, after the number that was read and cut, give the answer. Assumes nothing.
use Rattle.std.proofs.Common.{sym}
use Rattle.line_form.proofs.Reading.{one_counted, counted_to, counted_all}
use Rattle.line_form.proofs.read.read_digits.Goals as goal

pub returns-then-not-is_ascii_digit : goal.returns-then-not-is_ascii_digit
returns-then-not-is_ascii_digit c = counted_to _ _ _ c.loop-i.invariant c.loop-i-test.true (sym c.if-not-is_ascii_digit.ensures.value)

pub loop-i-preserved : goal.loop-i-preserved
loop-i-preserved c = one_counted _ _ _ c.loop-i.invariant c.loop-i-test.true (sym c.if-not-is_ascii_digit.ensures.value) _ c.grown-value.ensures

pub returns : goal.returns
returns c = counted_all _ _ _ c.loop-i.invariant c.loop-i-test.false
