-- `supports::keep_earlier` meets its contract: its test splits. Assumes nothing.
use Rattle.std.proofs.Common.{leb, rules}
use Rattle.supports.proofs.Nearest.{as_far_splits}
use Rattle.supports.proofs.keep_earlier.Goals as goal

pub returns : goal.returns
returns c = c.keep.ensures (leb c.args.new.reach) (λ r b e. search rules) (as_far_splits _)
