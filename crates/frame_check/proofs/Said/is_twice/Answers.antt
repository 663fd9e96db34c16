-- `frame_check::Said::is_twice` meets its contract, by the kind. Assumes nothing.
use mathlib.Core.Path.{sym, ◌∙◌}
use Rattle.frame_check.proofs.Laws.{label_fits, shade_fits}
use Rattle.frame_check.proofs.Said.is_twice.Goals as goal

pub label_twice-requires : goal.label_twice-requires
label_twice-requires c = rw c.label_of.ensures (label_fits _ _ c.args.self.now.few c.args.line.listed c.requires (sym c.kind.ensures ∙ c.in-Label.is))

pub shade_twice-requires : goal.shade_twice-requires
shade_twice-requires c = rw c.shade_of.ensures (shade_fits _ _ c.args.self.now.few c.args.line.listed c.requires (sym c.kind.ensures ∙ c.in-Shade.is))
