-- `read::positive` meets its contract: by the first byte. Assumes nothing.
use native.Mathlib.Omega.{arith}
use Rattle.line_form.proofs.Reading.{positive_some, positive_none}
use Rattle.line_form.proofs.read.positive.Goals as goal

pub returns-in-49-to-57 : goal.returns-in-49-to-57
returns-in-49-to-57 c = positive_some _ _ (omega arith) (omega arith) (omega arith) c.read_digits.ensures

pub returns-in_default : goal.returns-in_default
returns-in_default c = positive_none _ (λ n l. omega arith)

pub returns-in_default-2 : goal.returns-in_default-2
returns-in_default-2 c = positive_none _ (λ n l. omega arith)

pub returns-in_default-3 : goal.returns-in_default-3
returns-in_default-3 c = positive_none _ (λ n l. omega arith)
