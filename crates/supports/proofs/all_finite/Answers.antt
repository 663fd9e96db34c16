-- `supports::all_finite` meets its contract: each residual is asked. Assumes nothing.
use Rattle.std.proofs.Common.{rules}
use Rattle.std.proofs.lemmas.Iterator.{YieldsList-from_slice}
use Rattle.std.proofs.lemmas.Iterator.Search.{all_from_yields_List}
use Rattle.binary32.specs.Ranges.{is_finite}
use Rattle.supports.proofs.Residuals.{all_finite_is}
use Rattle.supports.proofs.all_finite.Goals as goal

pub returns : goal.returns
returns c = rw all_finite_is (all_from_yields_List is_finite _ _ _ c.all.ensures.ran (YieldsList-from_slice c.args.residuals.now cc) (λ x b q k. search rules))
