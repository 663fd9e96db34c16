-- `role::sum_digits` meets its contract: ten digits more than what stands before them. Assumes nothing.
use mathlib.Core.Path.{sym, ap, ◌∙◌}
use Prim.Native.Nat.{ℕ, ◌+◌}
use native.Mathlib.Omega.{arith}
use Rattle.report_line.proofs.RoleLine.{ten_fewer}
use Rattle.report_line.proofs.role.sum_digits.Goals as goal

pub returns-clause-digits : goal.returns-clause-digits
returns-clause-digits c = ap (λ (n : ℕ). 10 + n) c.digit_count-2.ensures.is ∙ sym (ten_fewer c.args.n (omega (arith, c.if-front-eq0.false)))
