-- `checks::Lent::check_rest` asks what `check_corners` asks. Assumes nothing.
use mathlib.Core.Path.{sym, ◌∙◌}
use Rattle.report.specs.WriteResult.{text_lent}
use Rattle.report.proofs.Checking.{corners_asked}
use Rattle.report.proofs.checks.Lent.check_rest.Goals as goal

pub check_corners-requires : goal.check_corners-requires
check_corners-requires c = corners_asked (text_lent c.args.self.now.corners c.args.self.now.passes c.args.self.now.words.now c.args.self.now.sheet.now) c.requires (sym c.over_limit.ensures ∙ c.if-over_limit.false)
