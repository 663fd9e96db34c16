-- `supports::worst_of` meets its contract: one residual after the other. Assumes nothing.
use Rattle.std.proofs.Common.{cond, rules}
use Rattle.std.proofs.lemmas.Iterator.{YieldsList-from_slice}
use Rattle.std.proofs.lemmas.Iterator.Consumers.{fold_from_yields_List}
use lib.Ieee.{lt}
use Rattle.supports.proofs.Residuals.{worst_is}
use Rattle.supports.proofs.worst_of.Goals as goal

pub returns : goal.returns
returns c = rw worst_is (fold_from_yields_List _ (λ m r. cond (lt m r) r m) _ _ c.fold.ensures.ran (YieldsList-from_slice c.args.residuals cc) (λ a x b q k. search rules))
