-- `LentCorners::some_corner_outside` meets its contract: one corner after the other is looked at. Assumes nothing.
use mathlib.Core.Path.{◌∙◌, refl}
use native.Mathlib.Omega.{arith}
use lib.ListN.{length}
use Rattle.std.proofs.Common.{rules, tests}
use Rattle.std.proofs.lemmas.Iterator.{YieldsList-from_range}
use Rattle.std.proofs.lemmas.Iterator.Search.{any_from_yields_List}
use Rattle.arguments.specs.Arguments.{outside_at, some_corner_outside, shade_outside}
use Rattle.arguments.specs.Asked.{lists_of}
use Rattle.arguments.proofs.Chains.{any_counted}
use Rattle.arguments.proofs.LentCorners.some_corner_outside.Goals as goal

pub returns : goal.returns
unfolding some_corner_outside outside_at shade_outside
returns c =
    let l = lists_of c.args.self.now in
    any_from_yields_List (outside_at l c.args.self.now.shades.now) _ _ _ c.any.ensures.ran (YieldsList-from_range 0 (length c.args.self.now.xs.now) (length c.args.self.now.xs.now) refl (omega arith)) (λ x b q k. search (rules, tests))
    ∙ any_counted _ _
