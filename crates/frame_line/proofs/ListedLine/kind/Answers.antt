-- `frame_line::ListedLine::kind` meets its contract: the table's rows have the kinds. Assumes nothing.
use Rattle.std.proofs.Common.{rules}
use Rattle.frame_line.proofs.Rows.{kind_is}
use Rattle.frame_line.proofs.ListedLine.kind.Goals as goal

pub returns : goal.returns
returns c = search (rules, kind_is)
