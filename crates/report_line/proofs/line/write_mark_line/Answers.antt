-- `line::write_mark_line` meets its contract, by whether the place has the mark. Assumes nothing.
use mathlib.Core.List.{[], ◌∷◌}
use mathlib.Core.Path.{◌≡◌, ◌∙◌}
use Rattle.sheet.specs.Cells.{OnSheet}
use Rattle.line_form.specs.Written.{form_text}
use Rattle.report_line.specs.Written.{mark_line}
use Rattle.report_line.proofs.Forms.{small_i, small_j, held_i, held_j, mark_form, mark_is, cell_on, same_room, same_wrote}
use Rattle.report_line.proofs.line.write_mark_line.Goals as goal
use Rattle.report_line.proofs.line.write_mark_line.Goals.{After-cell_of-c, After-held_number-2}

on : (c : After-cell_of-c) → OnSheet c.cell_of-c.result
on c = cell_on c.args.place _ c.cell_of-c.ensures c.requires.below

line : (c : After-held_number-2) → form_text c.args.form.now (c.held_number.result ∷ c.held_number-2.result ∷ []) ≡ mark_line c.args.marked c.args.form.now c.args.place
line c =
    let o = on (goal.at.After-held_number-2 c).After-cell_of-c in
    mark_form c.cell_of-c.result _ _ (held_i _ o _ c.held_number.ensures) (held_j _ o _ c.held_number-2.ensures) c.args.form.now c.requires.two
    ∙ mark_is c.args.marked c.args.form.now c.args.place _ c.cell_of-c.ensures c.if-not-marked.false

pub held_number-requires : goal.held_number-requires
held_number-requires c = small_i _ (on (goal.at.held_number-requires c).After-cell_of-c)

pub held_number-requires-2 : goal.held_number-requires-2
held_number-requires-2 c = small_j _ (on (goal.at.held_number-requires-2 c).After-cell_of-c)

pub write_form-requires : goal.write_form-requires
write_form-requires c = same_room _ _ c.args.out.now (line (goal.at.write_form-requires c).After-held_number-2) c.requires.room

pub returns : goal.returns
returns c = same_wrote _ _ _ _ _ (line (goal.at.returns c).After-held_number-2) c.write_form.ensures
