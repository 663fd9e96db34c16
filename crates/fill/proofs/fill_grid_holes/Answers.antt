-- `fill::fill_grid_holes` meets its contract: a refusal as the check gives it, or what the pass leaves. Assumes nothing.
use Rattle.std.proofs.lemmas.Result.{err_from_is_err_and}
use Rattle.sheet.specs.Corners.{corner_lists}
use Rattle.fill.proofs.Rounds.{call_refused, call_accepted, call_done}
use Rattle.fill.proofs.fill_grid_holes.Goals as goal

pub returns-in_err-check_arguments : goal.returns-in_err-check_arguments
returns-in_err-check_arguments c = let a = c.args in
    let both_clauses =
    call_refused (corner_lists a.xs.now a.ys.now a.pitches.now) a.shades.now a.sheet.now a.around a.attached.now a.settings a.params _ c.check_arguments.ensures _ c.in_err-check_arguments.was in
    let p = err_from_is_err_and c.from_residual.result c.from_residual.ensures.1 in
    rw (p.1, p.2) (record { attached_after = both_clauses.0; said = both_clauses.1 })

pub fill_accepted-requires : goal.fill_accepted-requires
fill_accepted-requires c = let a = c.args in call_accepted (corner_lists a.xs.now a.ys.now a.pitches.now) a.shades.now a.sheet.now a.around a.attached.now a.settings a.params _ c.check_arguments.ensures c.in_ok-check_arguments.was

pub returns : goal.returns
returns c = let a = c.args in
    let both_clauses =
    call_done (corner_lists a.xs.now a.ys.now a.pitches.now) a.shades.now a.sheet.now a.around a.attached.now a.settings a.params _ c.check_arguments.ensures c.in_ok-check_arguments.was _ c.fill_accepted.ensures in
    record { attached_after = both_clauses.0; said = both_clauses.1 }
