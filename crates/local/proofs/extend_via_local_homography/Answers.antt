-- `local::extend_via_local_homography` meets its contract: a refusal as the check gives it, or what the pass leaves. Assumes nothing.
use Rattle.std.proofs.lemmas.Result.{err_from_is_err_and}
use Rattle.sheet.specs.Corners.{corner_lists}
use Rattle.local.proofs.Rounds.{call_refused, call_accepted, call_done}
use Rattle.local.proofs.extend_via_local_homography.Goals as goal

pub returns-in_err-check_arguments : goal.returns-in_err-check_arguments
returns-in_err-check_arguments c =
    let both_clauses =
    call_refused (corner_lists c.args.xs.now c.args.ys.now c.args.pitches.now) c.args.shades.now c.args.sheet.now c.args.around c.args.attached.now c.args.settings c.args.params _ c.check_arguments.ensures _ c.in_err-check_arguments.was in
    let p = err_from_is_err_and c.from_residual.result c.from_residual.ensures.1 in
    rw (p.1, p.2) (record { attached_after = both_clauses.0; said = both_clauses.1 })

pub local_accepted-requires : goal.local_accepted-requires
local_accepted-requires c = call_accepted (corner_lists c.args.xs.now c.args.ys.now c.args.pitches.now) c.args.shades.now c.args.sheet.now c.args.around c.args.attached.now c.args.settings c.args.params _ c.check_arguments.ensures c.in_ok-check_arguments.was

pub returns : goal.returns
returns c =
    let both_clauses =
    call_done (corner_lists c.args.xs.now c.args.ys.now c.args.pitches.now) c.args.shades.now c.args.sheet.now c.args.around c.args.attached.now c.args.settings c.args.params _ c.check_arguments.ensures c.in_ok-check_arguments.was _ c.local_accepted.ensures in
    record { attached_after = both_clauses.0; said = both_clauses.1 }
