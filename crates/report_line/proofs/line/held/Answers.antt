-- `line::held` meets its contract. Assumes nothing.
use Rattle.report_line.proofs.Forms.{held_count}
use Rattle.report_line.proofs.line.held.Goals as goal

pub returns : goal.returns
returns c = held_count c.args.n
