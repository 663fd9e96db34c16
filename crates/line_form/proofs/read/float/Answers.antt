-- `read::float` meets its contract: by what `read_bits` says. Assumes nothing.
use mathlib.Core.Path.{◌∙◌}
use Rattle.line_form.proofs.Reading.{float_none, float_room, float_read}
use Rattle.line_form.proofs.read.float.Goals as goal

pub returns-in_err-bits : goal.returns-in_err-bits
returns-in_err-bits c = c.from_residual.ensures ∙ float_none c.args.text.now c.in_err-bits.ensures

pub overflow_sub-text : goal.overflow_sub-text
overflow_sub-text c = float_room c.args.text.now _ c.in_ok-bits.ensures

pub returns : goal.returns
returns c = rw c.number.ensures (float_read c.args.text.now _ c.in_ok-bits.ensures)
