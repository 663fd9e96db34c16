-- `line::write_cell` meets its contract. Assumes nothing.
use Rattle.report_line.proofs.Forms.{small_i, small_j, held_i, held_j, cell_form, same_room, same_wrote}
use Rattle.report_line.specs.Written.{cell_text}
use Rattle.report_line.proofs.line.write_cell.Goals as goal

pub held_number-requires : goal.held_number-requires
held_number-requires c = small_i c.args.c c.requires.on

pub held_number-requires-2 : goal.held_number-requires-2
held_number-requires-2 c = small_j c.args.c c.requires.on

pub write_form-requires : goal.write_form-requires
write_form-requires c = same_room _ _ c.args.out.now (cell_form c.args.c _ _ (held_i c.args.c c.requires.on _ c.held_number.ensures) (held_j c.args.c c.requires.on _ c.held_number-2.ensures) c.args.corner _ c.held.ensures) c.requires.room

pub returns : goal.returns
returns c = same_wrote _ (cell_text c.args.c c.args.corner) _ _ _ (cell_form c.args.c _ _ (held_i c.args.c c.requires.on _ c.held_number.ensures) (held_j c.args.c c.requires.on _ c.held_number-2.ensures) c.args.corner _ c.held.ensures) c.write_form.ensures
