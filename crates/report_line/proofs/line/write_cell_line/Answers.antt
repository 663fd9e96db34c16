-- `line::write_cell_line` meets its contract, by the label of the place. Assumes nothing.
use mathlib.Core.Path.{sym, ◌∙◌}
use Rattle.report_line.specs.Result.{cell_line}
use Rattle.report_line.proofs.Forms.{no_cell, cell_is, corner_asked, nothing_written, same_wrote}
use Rattle.report_line.proofs.line.write_cell_line.Goals as goal

pub write_cell-requires : goal.write_cell-requires
write_cell-requires c = corner_asked c.args.sheet.now c.args.place _ c.cell_of.ensures c.args.out.now _ (sym c.label_of.ensures ∙ c.in-Some.is) c.requires

pub returns-in-None : goal.returns-in-None
returns-in-None c = nothing_written (cell_line c.args.sheet.now c.args.place) _ (no_cell c.args.sheet.now c.args.place (sym c.label_of.ensures ∙ c.in-None.is))

pub returns-in-Some : goal.returns-in-Some
returns-in-Some c = same_wrote _ (cell_line c.args.sheet.now c.args.place) _ _ _ (cell_is c.args.sheet.now c.args.place _ c.cell_of.ensures _ (sym c.label_of.ensures ∙ c.in-Some.is)) c.write_cell.ensures
