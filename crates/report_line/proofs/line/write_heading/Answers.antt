-- `line::write_heading` meets its contract: a form that has no numbers. Assumes nothing.
use Rattle.report_line.proofs.Forms.{heading_form, same_room, same_wrote}
use Rattle.report_line.proofs.line.write_heading.Goals as goal

pub write_form-requires : goal.write_form-requires
write_form-requires c = same_room _ _ c.args.out.now (heading_form _) c.requires

pub returns : goal.returns
returns c = same_wrote _ _ _ _ _ (heading_form _) c.write_form.ensures
