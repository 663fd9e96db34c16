-- `supports::keep_support` meets its contract: its test splits. Assumes nothing.
use Rattle.std.proofs.Common.{ltb, rules}
use Rattle.supports.proofs.Nearest.{farther_splits}
use Rattle.supports.proofs.keep_support.Goals as goal

pub returns : goal.returns
returns c = c.keep.ensures (ltb c.args.new.reach) (λ r b e. search rules) (farther_splits _)
