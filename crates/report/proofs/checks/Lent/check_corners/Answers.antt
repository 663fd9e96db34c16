-- `checks::Lent::check_corners` meets its contract: 5, then 6. Assumes nothing.
use mathlib.Core.Path.{sym, ◌∙◌}
use Rattle.arguments.proofs.Laws.{known, known_more}
use Rattle.report.proofs.checks.Lent.check_corners.Goals as goal

pub doubled_corner-requires : goal.doubled_corner-requires
doubled_corner-requires c = record { long = c.requires.long; known = known_more _ _ _ c.requires.few (known _ _ (sym c.unknown_corner.ensures ∙ c.if-unknown_corner.false)) }
