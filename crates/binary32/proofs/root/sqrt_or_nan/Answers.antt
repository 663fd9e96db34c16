-- `root::sqrt_or_nan` meets its contract: the root or the NaN, by what `sqrt` answered. Assumes nothing.
use Rattle.std.proofs.Common.{ap, ◌∙◌}
use lib.Ieee.{of_bits}
use Rattle.binary32.specs.Sqrt.{value_of}
use Rattle.binary32.proofs.root.sqrt_or_nan.Goals as goal

pub returns : goal.returns
unfolding of_bits
returns c = c.unwrap_or.ensures ∙ ap value_of c.sqrt.ensures.computed
