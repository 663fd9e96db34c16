-- `grow_extend::Growing::visit` meets its contract: a visit is what was found, settled. Assumes nothing.
use Rattle.grow_extend.proofs.Laws.{visit_settled, visit_settleable}
use Rattle.grow_extend.proofs.Growing.visit.Goals as goal

pub settle-requires : goal.settle-requires
settle-requires c = visit_settleable c.requires c.try_cell-found.ensures

pub returns : goal.returns
returns c = visit_settled c.args.c c.try_cell-found.ensures c.settle.ensures
