-- `line::write_refused` meets its contract. Assumes nothing.
use Rattle.report_line.proofs.Refused.{refused_room, refused_wrote}
use mathlib.Core.Path.{ap, ◌∙◌}
use lib.IntN.{pos}
use Rattle.report_line.proofs.line.write_refused.Goals as goal

pub write_form-requires : goal.write_form-requires
write_form-requires c = refused_room c.args.refusal c.args.line _ _ (c.held.ensures ∙ ap (λ (n : _). pos n) c.number-number.ensures) c.held-2.ensures c.args.out.now c.requires.line_bound c.requires.line_room_in_bounds

pub returns : goal.returns
returns c = refused_wrote c.args.refusal c.args.line _ _ (c.held.ensures ∙ ap (λ (n : _). pos n) c.number-number.ensures) c.held-2.ensures _ _ _ c.write_form.ensures
