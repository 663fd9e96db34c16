-- `frame_check::Said::check_line` meets its contract, a check after the other. Assumes nothing.
use mathlib.Core.Path.{ap, ◌∙◌}
use Rattle.std.proofs.lemmas.Result.{err_from_is_err_and}
use Rattle.frame_check.specs.Checks.{checks_in_order, over_limit, forbidden, checked_held}
use Rattle.frame_check.proofs.Laws.{refused_here, passed}
use Rattle.frame_check.proofs.Said.check_line.Goals as goal

pub returns-in_err-refuse_if : goal.returns-in_err-refuse_if
unfolding checked_held checks_in_order
returns-in_err-refuse_if c =
    let p = err_from_is_err_and c.from_residual.result c.from_residual.ensures.1 in
    rw (p.1, ← c.refusals_of-found.ensures.malformed)
    (refused_here _ _ _ p.2 c.in_err-refuse_if.ensures)

pub returns-in_err-refuse_if-2 : goal.returns-in_err-refuse_if-2
unfolding checked_held checks_in_order
returns-in_err-refuse_if-2 c =
    let p = err_from_is_err_and c.from_residual-in_err-refuse_if-2.result c.from_residual-in_err-refuse_if-2.ensures.1 in
    rw (p.1, ← c.refusals_of-found.ensures.malformed, ← (c.over_limit.ensures ∙ ap (over_limit c.args.self.now.corners c.args.self.now.passes) c.kind.ensures))
    (refused_here _ _ _ p.2 c.in_err-refuse_if-2.ensures ∙ passed _ _ _ c.in_ok-refuse_if.ensures)

pub returns-in_err-refuse_if-3 : goal.returns-in_err-refuse_if-3
unfolding checked_held checks_in_order
returns-in_err-refuse_if-3 c =
    let p = err_from_is_err_and c.from_residual-in_err-refuse_if-3.result c.from_residual-in_err-refuse_if-3.ensures.1 in
    rw (p.1, ← c.refusals_of-found.ensures.malformed, ← (c.over_limit.ensures ∙ ap (over_limit c.args.self.now.corners c.args.self.now.passes) c.kind.ensures), ← c.refusals_of-found.ensures.out_of_range)
    (refused_here _ _ _ p.2 c.in_err-refuse_if-3.ensures ∙ passed _ _ _ c.in_ok-refuse_if-2.ensures ∙ passed _ _ _ c.in_ok-refuse_if.ensures)

pub returns-in_err-refuse_if-4 : goal.returns-in_err-refuse_if-4
unfolding checked_held checks_in_order
returns-in_err-refuse_if-4 c =
    let p = err_from_is_err_and c.from_residual-in_err-refuse_if-4.result c.from_residual-in_err-refuse_if-4.ensures.1 in
    rw (p.1, ← c.refusals_of-found.ensures.malformed, ← (c.over_limit.ensures ∙ ap (over_limit c.args.self.now.corners c.args.self.now.passes) c.kind.ensures), ← c.refusals_of-found.ensures.out_of_range, ← c.refusals_of-found.ensures.off_sheet)
    (refused_here _ _ _ p.2 c.in_err-refuse_if-4.ensures ∙ passed _ _ _ c.in_ok-refuse_if-3.ensures ∙ passed _ _ _ c.in_ok-refuse_if-2.ensures ∙ passed _ _ _ c.in_ok-refuse_if.ensures)

pub returns-in_err-refuse_if-5 : goal.returns-in_err-refuse_if-5
unfolding checked_held checks_in_order
returns-in_err-refuse_if-5 c =
    let p = err_from_is_err_and c.from_residual-in_err-refuse_if-5.result c.from_residual-in_err-refuse_if-5.ensures.1 in
    rw (p.1, ← c.refusals_of-found.ensures.malformed, ← (c.over_limit.ensures ∙ ap (over_limit c.args.self.now.corners c.args.self.now.passes) c.kind.ensures), ← c.refusals_of-found.ensures.out_of_range, ← c.refusals_of-found.ensures.off_sheet, ← c.refusals_of-found.ensures.unknown_corner)
    (refused_here _ _ _ p.2 c.in_err-refuse_if-5.ensures ∙ passed _ _ _ c.in_ok-refuse_if-4.ensures ∙ passed _ _ _ c.in_ok-refuse_if-3.ensures ∙ passed _ _ _ c.in_ok-refuse_if-2.ensures ∙ passed _ _ _ c.in_ok-refuse_if.ensures)

pub returns-in_err-refuse_if-6 : goal.returns-in_err-refuse_if-6
unfolding checked_held checks_in_order
returns-in_err-refuse_if-6 c =
    let p = err_from_is_err_and c.from_residual-in_err-refuse_if-6.result c.from_residual-in_err-refuse_if-6.ensures.1 in
    rw (p.1, ← c.refusals_of-found.ensures.malformed, ← (c.over_limit.ensures ∙ ap (over_limit c.args.self.now.corners c.args.self.now.passes) c.kind.ensures), ← c.refusals_of-found.ensures.out_of_range, ← c.refusals_of-found.ensures.off_sheet, ← c.refusals_of-found.ensures.unknown_corner, ← c.is_twice.ensures)
    (refused_here _ _ _ p.2 c.in_err-refuse_if-6.ensures ∙ passed _ _ _ c.in_ok-refuse_if-5.ensures ∙ passed _ _ _ c.in_ok-refuse_if-4.ensures ∙ passed _ _ _ c.in_ok-refuse_if-3.ensures ∙ passed _ _ _ c.in_ok-refuse_if-2.ensures ∙ passed _ _ _ c.in_ok-refuse_if.ensures)

pub returns : goal.returns
unfolding checked_held checks_in_order
returns c = rw (← c.refusals_of-found.ensures.malformed, ← (c.over_limit.ensures ∙ ap (over_limit c.args.self.now.corners c.args.self.now.passes) c.kind.ensures), ← c.refusals_of-found.ensures.out_of_range, ← c.refusals_of-found.ensures.off_sheet, ← c.refusals_of-found.ensures.unknown_corner, ← c.is_twice.ensures, ← (c.is_forbidden.ensures ∙ ap (forbidden c.args.self.now.role) c.kind-2.ensures))
    (c.refuse_if-7.ensures ∙ passed _ _ _ c.in_ok-refuse_if-6.ensures ∙ passed _ _ _ c.in_ok-refuse_if-5.ensures ∙ passed _ _ _ c.in_ok-refuse_if-4.ensures ∙ passed _ _ _ c.in_ok-refuse_if-3.ensures ∙ passed _ _ _ c.in_ok-refuse_if-2.ensures ∙ passed _ _ _ c.in_ok-refuse_if.ensures)
