-- `frame_line::ListedLine::letters` meets its contract: the table's rows have the letters. Assumes nothing.
use Rattle.std.proofs.Common.{rules}
use Rattle.frame_line.specs.Table.{rows}
use Rattle.frame_line.proofs.Rows.{letters_held}
use Rattle.frame_line.proofs.ListedLine.letters.Goals as goal

pub returns : goal.returns
unfolding rows
returns c = search (rules, letters_held)
