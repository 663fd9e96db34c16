-- `grow_extend::extend_from_labelled` meets its contract: refused, with nothing written, or the pass done. Assumes nothing.
use Rattle.std.proofs.lemmas.Result.{err_from_is_err_and}
use Rattle.sheet.specs.Corners.{corner_lists}
use Rattle.grow_extend.proofs.Laws.{call_refused, call_accepted, call_done}
use Rattle.grow_extend.proofs.extend_from_labelled.Goals as goal

pub extend-requires : goal.extend-requires
extend-requires c =
    let a = c.args in
    call_accepted (corner_lists a.xs.now a.ys.now a.pitches.now) a.settings a.params a.shades.now a.sheet.now a.around a.queue.now a.attached.now c.check_arguments.ensures c.in_ok-check_arguments.was

pub returns-in_err-check_arguments : goal.returns-in_err-check_arguments
returns-in_err-check_arguments c =
    let a = c.args in
    let both_clauses =
    call_refused (corner_lists a.xs.now a.ys.now a.pitches.now) a.settings a.params a.shades.now a.sheet.now a.around a.queue.now a.attached.now c.check_arguments.ensures c.in_err-check_arguments.was in
    let p = err_from_is_err_and c.from_residual.result c.from_residual.ensures.1 in
    rw (p.1, p.2) (record { attached_after = both_clauses.0; said = both_clauses.1 })

pub returns : goal.returns
returns c =
    let a = c.args in
    let both_clauses =
    call_done (corner_lists a.xs.now a.ys.now a.pitches.now) a.settings a.params a.shades.now a.sheet.now a.around a.queue.now a.attached.now c.check_arguments.ensures c.in_ok-check_arguments.was c.extend.ensures in
    record { attached_after = both_clauses.0; said = both_clauses.1 }
