-- `supports::record_residuals` meets its contract: one residual after the other. Assumes nothing.
use Rattle.std.proofs.Common.{rules}
use Rattle.std.proofs.lemmas.Iterator.{YieldsList-from_slice}
use Rattle.std.proofs.lemmas.Iterator.Consumers.{fold_from_yields_List}
use Rattle.passes.specs.Local.{recorded}
use Rattle.supports.proofs.Residuals.{recorded_is}
use Rattle.supports.proofs.record_residuals.Goals as goal

pub returns : goal.returns
returns c = rw recorded_is (fold_from_yields_List _ recorded _ _ c.fold.ensures.ran (YieldsList-from_slice c.args.residuals cc) (λ a x b q k. search rules))
