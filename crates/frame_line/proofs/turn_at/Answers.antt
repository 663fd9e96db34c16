-- `frame_line::turn_at` meets its contract: the table's rows have the turns. Assumes nothing.
use Rattle.std.proofs.Common.{rules, ap, ◌∙◌, ◌<◌}
use Rattle.std.proofs.lemmas.List.{get_or_default}
use Rattle.std.proofs.Math.ListN.{get_or}
use Rattle.frame_line.specs.Table.{rows, row_count, turn_by}
use Rattle.frame_line.specs.declared.Row.{Row}
use Rattle.frame_line.proofs.Checking.{no_row, no_stage}
use Rattle.frame_line.proofs.Rows.{turn_is}
use Rattle.frame_line.proofs.turn_at.Goals as goal

pub returns-in_err-get : goal.returns-in_err-get
returns-in_err-get c = search (rules, no_row)

pub returns-in_err-get-2 : goal.returns-in_err-get-2
returns-in_err-get-2 c = search (rules, no_stage)

pub returns : goal.returns
unfolding rows
returns c =
    let p = c.in_ok-get.ensures.lookup in
    let q = c.in_ok-get-2.ensures.lookup in
    let few : c.args.row < row_count = p.3.0 in
    c.turn_by.ensures
    ∙ (ap turn_by (q.1 ∙ get_or_default c.in_ok-get.field-0.now.turns c.args.stage c.in_ok-get-2.field-0.now 46 q.3.0 ∙ ap (λ (r : Row). get_or r.turns c.args.stage 46) p.1)
    ∙ search (rules, turn_is, few))
