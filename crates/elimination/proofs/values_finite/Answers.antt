-- `elimination::values_finite` meets its contract: a test of each value. Assumes nothing.
use mathlib.Core.Path.{◌∙◌}
use lib.Ieee.{nan}
use Rattle.std.proofs.Common.{rules, tests}
use Rattle.std.proofs.lemmas.Iterator.{YieldsList-from_slice}
use Rattle.std.proofs.lemmas.Iterator.Search.{all_from_yields_List}
use Rattle.binary32.specs.Ranges.{is_finite}
use Rattle.elimination.proofs.Tables.{all_is_every}
use Rattle.elimination.proofs.values_finite.Goals as goal

pub returns : goal.returns
returns g c = all_from_yields_List is_finite _ _ _ c.all.ensures.ran (YieldsList-from_slice c.args.xs.now cc) (λ x b q k. search (rules, tests)) ∙ all_is_every is_finite nan _ c.args.xs.now c.told-xs
