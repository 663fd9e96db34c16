-- `read::integer` meets its contract: one law for each way out. Assumes nothing.
use mathlib.Core.Path.{◌∙◌, ap}
use native.Mathlib.Omega.{arith}
use Rattle.line_form.proofs.Reading.{positive_small, plus, minus, integer_zero, integer_minus, integer_plus, integer_none}
use Rattle.line_form.proofs.read.integer.Goals as goal

pub returns-in-48 : goal.returns-in-48
returns-in-48 c = rw c.number.ensures (integer_zero _ (omega arith) (omega arith))

pub returns-in_err-d-in-45 : goal.returns-in_err-d-in-45
returns-in_err-d-in-45 c = c.from_residual.ensures ∙ ap minus c.in_err-d-in-45.ensures ∙ integer_minus _ (omega arith) (omega arith)

pub overflow_sub-d : goal.overflow_sub-d
overflow_sub-d c = positive_small _ _ c.in_ok-d-in-45.ensures

pub returns-in_ok-d-in-45 : goal.returns-in_ok-d-in-45
returns-in_ok-d-in-45 c = rw c.number-in-45.ensures (ap minus c.in_ok-d-in-45.ensures ∙ integer_minus _ (omega arith) (omega arith))

pub returns-in_err-d-in-len1-up : goal.returns-in_err-d-in-len1-up
returns-in_err-d-in-len1-up c = c.from_residual-in_err-d-in-len1-up.ensures ∙ ap plus c.in_err-d-in-len1-up.ensures ∙ integer_plus _ (omega arith) (λ e. omega arith) (λ e. omega arith)

pub overflow_add-d : goal.overflow_add-d
overflow_add-d c = omega (arith, positive_small _ _ c.in_ok-d-in-len1-up.ensures)

pub returns-in_ok-d-in-len1-up : goal.returns-in_ok-d-in-len1-up
returns-in_ok-d-in-len1-up c = rw c.number-in-len1-up.ensures (ap plus c.in_ok-d-in-len1-up.ensures ∙ integer_plus _ (omega arith) (λ e. omega arith) (λ e. omega arith))

pub returns-in-empty : goal.returns-in-empty
returns-in-empty c = integer_none _ (omega arith)
