-- `line::held_number` meets its contract: 1,000,000 more is above 0. Assumes nothing.
use mathlib.Core.Path.{◌≡◌, ◌∙◌}
use native.Mathlib.Omega.{arith}
use lib.IntN.{pos, ◌+ℤ◌}
use mir.Syntax.{w32}
use mir.Val.{to_z, of_z}
use Rattle.sheet.proofs.Laws.{sum_read}
use Rattle.report_line.proofs.Forms.{raised, raise, raised_held}
use Rattle.report_line.proofs.line.held_number.Goals as goal
use Rattle.report_line.proofs.line.held_number.Goals.{Start}

-- z + 1000000, as the machine has it
up : (c : Start) → to_z w32 (of_z w32 (to_z w32 (of_z w32 c.args.z) +ℤ pos 1000000)) ≡ pos (raised c.args.z)
up c = sum_read c.args.z (pos 1000000) (omega arith) ∙ raise c.args.z c.requires

pub returns : goal.returns
returns c = rw (up c) (raised_held c.args.z c.requires)
