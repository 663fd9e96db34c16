-- The lines of six passes of the three roles, computed. Assumes nothing.
use mathlib.Core.Path.{refl}
use Rattle.line_form.specs.Integers.{decimal_up_to, decimal, integer_text}
use Rattle.line_form.specs.Forms.{number_text, printed}
use Rattle.role_counts.specs.RoleCounts.{counts_of, counts_under, sum_for}
use Rattle.report_line.specs.Result.{role_line, line_of_role, role_lines}
use Rattle.role_laws.specs.Computed.{SixSummed}

pub six_summed : SixSummed
unfolding role_lines line_of_role role_line sum_for counts_under counts_of printed number_text integer_text decimal decimal_up_to
six_summed = refl
