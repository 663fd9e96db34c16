-- `any_shade` meets its contract: a byte that is not 0 is a shade. Assumes nothing.
use mathlib.Core.Path.{◌≡◌, ◌∙◌}
use mathlib.Core.Bool.{not}
use lib.Dec.{eqb}
use Rattle.std.proofs.Common.{rules, tests}
use Rattle.std.proofs.lemmas.Iterator.{YieldsList-from_slice}
use Rattle.std.proofs.lemmas.Iterator.Search.{any_from_yields_List}
use Rattle.arguments.specs.Shades.{shade_of, stands}
use Rattle.arguments.proofs.HoldingShades.{stands_if, any_of_all}
use Rattle.arguments.proofs.any_shade.Goals as goal

pub returns : goal.returns
returns c =
    any_from_yields_List (λ b. stands (shade_of b)) _ _ _ c.any.ensures.ran (YieldsList-from_slice c.args.shades.now cc) (λ x b q k. let e : (q ≡ record {}) × (b ≡ not (eqb x.now 0)) = search (rules, tests) in (e.0, e.1 ∙ stands_if x.now))
    ∙ any_of_all _
