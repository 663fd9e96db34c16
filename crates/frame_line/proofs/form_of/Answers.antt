-- `frame_line::form_of` meets its contract: the table's rows have the forms. Assumes nothing.
use Rattle.std.proofs.Common.{rules}
use Rattle.frame_line.specs.Table.{rows}
use Rattle.frame_line.proofs.Rows.{form_is}
use Rattle.frame_line.proofs.form_of.Goals as goal

pub returns : goal.returns
unfolding rows
returns c = search (rules, form_is)
