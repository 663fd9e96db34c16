-- `elimination::column` meets its contract: the pivot's row comes to the diagonal, and the rows below gain. Assumes nothing.
use mathlib.Core.Path.{ap, ◌∙◌}
use Rattle.elimination.specs.Solve.{Matrix, swapped, cleared}
use Rattle.elimination.proofs.Rows.{swap_set}
use Rattle.elimination.proofs.column.Goals as goal

pub returns : goal.returns
returns c =
    c.clear.ensures ∙ ap (λ (x : Matrix). cleared x c.args.k) (swap_set _ _ _ c.told-m c.requires c.pivot-b.ensures.1 ∙ ap (swapped _ _) c.pivot-b.ensures.0)
