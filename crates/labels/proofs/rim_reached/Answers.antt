-- `labels::rim_reached` meets its contract: the walk sees each labelled place. Assumes nothing.
use mathlib.Core.Path.{◌∙◌}
use Rattle.std.proofs.Common.{rules, tests}
use Rattle.std.proofs.lemmas.Iterator.Consumers.{YieldsList-at, YieldsList-from_first, YieldsList-from_filter_map}
use Rattle.std.proofs.lemmas.Iterator.Search.{any_from_yields_List}
use Rattle.sheet.specs.Blank.{written_rest}
use Rattle.labels.specs.Labelled.{labelled_cell}
use Rattle.labels.specs.Rim.{on_rim}
use Rattle.labels.proofs.Rim.{rim_walked}
use Rattle.labels.proofs.rim_reached.Goals as goal

pub returns : goal.returns
returns c =
    any_from_yields_List (on_rim c.args.depth) _ _ _ c.any.ensures.ran
    (YieldsList-from_filter_map _ labelled_cell
    (YieldsList-at c.filter_map.ensures.source (YieldsList-from_first (λ e. e) written_rest _ c.new.ensures.rest))
    c.filter_map.ensures.closure
    (λ x r q k. search (rules, tests)))
    (λ x b q k. search (rules, tests))
    ∙ rim_walked _ _
