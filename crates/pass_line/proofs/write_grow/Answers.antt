-- `pass_line::write_grow` meets its contract, by whether the rim was reached. Assumes nothing.
use mathlib.Core.Path.{ap, ◌∙◌}
use Rattle.line_form.specs.Written.{form_text}
use Rattle.report_line.proofs.Forms.{grow_yes, grow_no, same_room, same_wrote}
use Rattle.pass_line.proofs.Rim.{by_rim, four_of}
use Rattle.pass_line.proofs.write_grow.Goals as goal

pub write_rim-requires : goal.write_rim-requires
write_rim-requires c = same_room _ _ c.args.out.now (ap (form_text _) (four_of c.held_counts-words.result c.held_counts-words.ensures.four) ∙ by_rim _ _ _ c.args.s.rim (grow_yes c.args.s _ _ _ _ c.held_counts-words.ensures.held.attached c.held_counts-words.ensures.held.no_candidate c.held_counts-words.ensures.held.ambiguous c.held_counts-words.ensures.held.edge) (grow_no c.args.s _ _ _ _ c.held_counts-words.ensures.held.attached c.held_counts-words.ensures.held.no_candidate c.held_counts-words.ensures.held.ambiguous c.held_counts-words.ensures.held.edge)) c.requires.room

pub returns : goal.returns
returns c = same_wrote _ _ _ _ _ (ap (form_text _) (four_of c.held_counts-words.result c.held_counts-words.ensures.four) ∙ by_rim _ _ _ c.args.s.rim (grow_yes c.args.s _ _ _ _ c.held_counts-words.ensures.held.attached c.held_counts-words.ensures.held.no_candidate c.held_counts-words.ensures.held.ambiguous c.held_counts-words.ensures.held.edge) (grow_no c.args.s _ _ _ _ c.held_counts-words.ensures.held.attached c.held_counts-words.ensures.held.no_candidate c.held_counts-words.ensures.held.ambiguous c.held_counts-words.ensures.held.edge)) c.write_rim.ensures
