-- `write::digit_count` meets its contract: by the powers of ten that enclose the number. Assumes nothing.
use Rattle.std.proofs.Common.{rules, arith}
use Rattle.line_form.proofs.Writing.{counted}
use Rattle.line_form.proofs.write.digit_count.Goals as goal

pub returns : goal.returns
returns c = let e = c.checked_ilog10.ensures in counted _ _ _ (omega arith) e.none e.power_le e.next_power_gt (search rules)
