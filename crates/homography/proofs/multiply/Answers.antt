-- `homography::multiply` meets its contract: the entries in their order. Assumes nothing.
use lib.Ieee.{nan}
use Rattle.std.proofs.Common.{rules}
use Rattle.homography.specs.Normalize.{row_sum}
use Rattle.homography.specs.Undo.{crossed, multiplied}
use Rattle.elimination.proofs.Made.{counted}
use Rattle.homography.proofs.multiply.Goals as goal

pub returns : goal.returns
unfolding multiplied
returns c = counted _ _ (crossed row_sum c.args.a c.args.b) c.from_fn.result nan 9 c.from_fn.ensures.items (λ j y q l k. search rules)
