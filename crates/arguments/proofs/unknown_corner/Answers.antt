-- `arguments::unknown_corner` meets its contract: the walk sees each place that holds something. Assumes nothing.
use mathlib.Core.Path.{◌∙◌}
use Rattle.std.proofs.Common.{rules, tests}
use Rattle.std.proofs.lemmas.Iterator.Consumers.{YieldsList-from_first}
use Rattle.std.proofs.lemmas.Iterator.Search.{any_from_yields_List}
use Rattle.sheet.specs.Blank.{written_rest}
use Rattle.arguments.proofs.Tests.{holds_unknown, unknown_walked}
use Rattle.arguments.proofs.unknown_corner.Goals as goal

pub returns : goal.returns
returns c =
    any_from_yields_List (holds_unknown c.args.n) _ _ _ c.any.ensures.ran
    (YieldsList-from_first (λ e. e) written_rest _ c.new.ensures.rest)
    (λ x b q k. search (rules, tests))
    ∙ unknown_walked _ _
