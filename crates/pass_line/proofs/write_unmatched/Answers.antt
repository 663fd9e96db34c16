-- `pass_line::write_unmatched` meets its contract, by whether a shade stands. Assumes nothing.
use Rattle.report_line.proofs.Forms.{unmatched_form, same_room, same_wrote, nothing_written}
use Rattle.report_line.proofs.Behind.{no_line, count_line}
use mathlib.Core.Path.{◌∙◌}
use Rattle.pass_line.proofs.write_unmatched.Goals as goal

pub write_form-requires : goal.write_form-requires
write_form-requires c = same_room _ _ c.args.out.now (unmatched_form _ _ c.held.ensures ∙ count_line c.args.unmatched _ c.in-Some.is) c.requires.room

pub returns-in-None : goal.returns-in-None
returns-in-None c = nothing_written _ c.args.out.now (no_line c.args.unmatched c.in-None.is)

pub returns-in-Some : goal.returns-in-Some
returns-in-Some c = same_wrote _ _ _ _ _ (unmatched_form _ _ c.held.ensures ∙ count_line c.args.unmatched _ c.in-Some.is) c.write_form.ensures
