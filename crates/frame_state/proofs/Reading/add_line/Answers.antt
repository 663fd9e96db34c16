-- `frame_state::Reading::add_line` meets its contract, by the kind: what the checks say of the line. Assumes nothing.
use mathlib.Core.Path.{sym, ◌∙◌}
use native.Mathlib.Omega.{arith}
use Rattle.frame_state.proofs.Laws.{opening_fits, corner_fits, labels_room, shade_room, pass_fits}
use Rattle.frame_state.proofs.Reading.add_line.Goals as goal

pub with_opening-self-requires : goal.with_opening-self-requires
with_opening-self-requires c = opening_fits c.args.line.listed c.requires _ (sym c.kind.ensures ∙ c.in-Opening.is)

pub put_corner-requires : goal.put_corner-requires
put_corner-requires c = corner_fits c.args.line.listed c.requires (sym c.kind.ensures ∙ c.in-Corner.is)

pub add_label-requires : goal.add_label-requires
add_label-requires c = rw c.label_of.ensures (labels_room c.args.line.listed c.requires (sym c.kind.ensures ∙ c.in-Label.is))

pub put_shade-requires : goal.put_shade-requires
put_shade-requires c = rw c.shade_of.ensures (shade_room c.args.line.listed c.requires (sym c.kind.ensures ∙ c.in-Shade.is))

pub put_pass-requires : goal.put_pass-requires
put_pass-requires c = pass_fits c.args.line.listed c.requires _ (sym c.kind.ensures ∙ c.in-Pass.is)

pub overflow_add-self-in-Pass : goal.overflow_add-self-in-Pass
overflow_add-self-in-Pass c = omega (arith, pass_fits c.args.line.listed c.requires _ (sym c.kind.ensures ∙ c.in-Pass.is))
