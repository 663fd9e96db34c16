-- `supports::cell_point` meets its contract: numbers of magnitude at most 64 are floats. Assumes nothing.
use Rattle.sheet.proofs.Laws.{line_i, line_j}
use Rattle.supports.proofs.Fitted.{float_fits, point_is}
use Rattle.supports.proofs.cell_point.Goals as goal

pub int_to_float-result : goal.int_to_float-result
int_to_float-result c = float_fits c.args.c.i (line_i _ c.requires).small

pub int_to_float-result-2 : goal.int_to_float-result-2
int_to_float-result-2 c = float_fits c.args.c.j (line_j _ c.requires).small

pub returns : goal.returns
returns c = point_is _ c.requires
