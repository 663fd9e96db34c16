-- `write::write_decimal` meets its contract. The invariant: the digits that are still to be written and the part behind them make the text. Assumes nothing.
use Rattle.line_form.proofs.Writing.{none_placed, one_placed, all_placed}
use Rattle.line_form.proofs.write.write_decimal.Goals as goal

pub loop-i-init : goal.loop-i-init
loop-i-init c = none_placed _ _ _ c.requires c.digit_count-count.ensures.is

pub loop-i-preserved : goal.loop-i-preserved
loop-i-preserved c = one_placed _ _ _ _ _ c.loop-i.invariant c.loop-i-test.true _ c.last_digit.ensures

pub returns : goal.returns
returns c = all_placed _ _ _ _ _ c.loop-i.invariant c.loop-i-test.false _ c.digit_count-count.ensures.is
