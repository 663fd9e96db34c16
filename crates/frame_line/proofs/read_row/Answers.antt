-- `frame_line::read_row` meets its contract, by the form of the row. Assumes nothing.
use Rattle.std.proofs.Common.{sym}
use Rattle.frame_line.proofs.Rows.{form_long, second_other}
use Rattle.frame_line.proofs.Laws.{not_read, row_missed, row_held}
use Rattle.frame_line.proofs.read_row.Goals as goal

pub bounds-form-1 : goal.bounds-form-1
bounds-form-1 c = rw c.form_of-form.ensures (form_long c.args.row c.requires)

pub returns-then-not-has_second : goal.returns-then-not-has_second
returns-then-not-has_second c = not_read c.args.line.now c.args.row (second_other c.args.row c.requires _ (sym (rw c.form_of-form.ensures at c.if-not-has_second.ensures)))

pub returns-in_err-values : goal.returns-in_err-values
returns-in_err-values c = rw c.from_residual.ensures (row_missed c.args.line.now c.args.row (rw c.form_of-form.ensures at c.in_err-values.ensures))

pub returns : goal.returns
returns c = row_held c.args.line.now c.args.row _ (rw c.form_of-form.ensures at c.in_ok-values.ensures)
