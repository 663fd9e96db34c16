-- `labels::is_outermost` meets its contract: a line that is not between the outermost ones. Assumes nothing.
use mathlib.Core.Path.{ap, ◌∙◌}
use mathlib.Core.Bool.{not}
use mir.Facts.{to_z-of_z}
use Rattle.labels.specs.Rim.{outermost}
use Rattle.labels.proofs.Between.{not_between}
use Rattle.labels.proofs.is_outermost.Goals as goal

pub returns : goal.returns
returns c =
    ap not c.contains.ensures.value
    ∙ not_between _ _ _ c.requires c.new.ensures.start c.new.ensures.end c.new.ensures.exhausted
    ∙ ap (outermost c.args.depth) (to_z-of_z c.ranges.line)
