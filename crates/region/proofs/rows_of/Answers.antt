-- `region::rows_of` meets its contract: the line of a place is its row. Assumes nothing.
use Rattle.std.proofs.Common.{◌%◌, rules}
use Rattle.region.proofs.rows_of.Goals as goal

pub returns : goal.returns
returns c = c.lines_of.ensures (λ p. p % 128) (λ p r h e. search rules)
