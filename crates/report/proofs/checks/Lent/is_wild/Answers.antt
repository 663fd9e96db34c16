-- `checks::Lent::is_wild` meets its contract: one outcome after the other is looked at. Assumes nothing.
use mathlib.Core.Path.{◌∙◌, refl}
use native.Mathlib.Omega.{arith}
use Rattle.std.proofs.Common.{rules, tests}
use Rattle.std.proofs.lemmas.Iterator.{YieldsList-from_range}
use Rattle.std.proofs.lemmas.Iterator.Search.{any_from_yields_List}
use Rattle.arguments.proofs.Chains.{any_counted}
use Rattle.report_words.specs.Outcomes.{wild_outcome}
use Rattle.report.specs.WriteResult.{wild}
use Rattle.report.proofs.checks.Lent.is_wild.Goals as goal

pub returns : goal.returns
unfolding wild
returns c =
    any_from_yields_List (wild_outcome c.args.self.now.words.now) _ _ _ c.any.ensures.ran (YieldsList-from_range 0 c.args.self.now.passes c.args.self.now.passes refl (omega arith)) (λ x b q k. search (rules, tests))
    ∙ any_counted _ _
