-- `join_sheet::write_new` meets its contract: what is left of the labels gives the whole sheet, and the box is kept. Assumes nothing.
use mathlib.Core.Path.{sym, ap, ◌∙◌}
use native.Mathlib.Omega.{arith}
use lib.ListN.{get_or}
use mathlib.Core.List.{List}
use Rattle.join.specs.Sheets.{labelled}
use Rattle.join_sheet.specs.Held.{held_at, held_labels, new_held}
use Rattle.join_sheet.specs.declared.SecondLabel.{SecondLabel}
use Rattle.join_sheet.proofs.Walk.{rest_more, write_more, write_end}
use Rattle.join_sheet.proofs.write_new.Goals as goal

pub loop-l-preserved : goal.loop-l-preserved
loop-l-preserved c =
    let second = c.args.second.now.labels.now in
    let none : SecondLabel = record { corner = 0; place = 0 } in
    let more = rest_more second c.loop-l.l-index none c.loop-l-test.true in (
      sym
          (write_more c.args.used.now _ _ c.args.d.offset (held_at (get_or second c.loop-l.l-index none))
          (c.put_new.ensures.written ∙ rw (c.moved_cell.ensures, c.from.ensures)) _)
          ∙ ap (λ (l : List SecondLabel). labelled c.loop-l.sheet (new_held c.args.used.now (held_labels l) c.args.d.offset)) (sym more)
          ∙ c.loop-l.invariant.0,
      c.put_new.ensures.kept,
    )

pub put_new-requires-clause-kept : goal.put_new-requires-clause-kept
put_new-requires-clause-kept c = c.loop-l.invariant.1

pub returns-clause-written : goal.returns-clause-written
returns-clause-written c =
    sym (write_end c.args.used.now _ c.args.d.offset c.args.second.now.labels.now c.loop-l.l-index (omega (arith, c.loop-l-test.false)))
    ∙ c.loop-l.invariant.0
