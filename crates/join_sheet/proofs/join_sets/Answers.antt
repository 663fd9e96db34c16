-- `join_sheet::join_sets` meets its contract: a refusal leaves the sheet, a shift writes the union, and the box is kept. Assumes nothing.
use Rattle.std.proofs.lemmas.Result.{err_from_is_err_and}
use Rattle.join_sheet.proofs.Walk.{join_refused, join_by, join_write}
use Rattle.join_sheet.proofs.join_sets.Goals as goal

pub invariant_of-write_new : goal.invariant_of-write_new
invariant_of-write_new c = record { near = (join_write _ _ _ c.requires.sets _ c.verdict_of.ensures _ c.in_ok-offset.was).within }

pub write_new-requires-clause-onto : goal.write_new-requires-clause-onto
write_new-requires-clause-onto c = join_write _ _ _ c.requires.sets _ c.verdict_of.ensures _ c.in_ok-offset.was

pub returns-clause-joined : goal.returns-clause-joined
returns-clause-joined c = join_by _ _ _ c.requires.sets _ c.verdict_of.ensures _ c.in_ok-offset.was _ c.write_new.ensures.written

pub returns-in_err-offset-clause-joined : goal.returns-in_err-offset-clause-joined
returns-in_err-offset-clause-joined c =
    let p = err_from_is_err_and c.from_residual.result c.from_residual.ensures.1 in
    join_refused _ _ _ c.requires.sets _ c.verdict_of.ensures _ _ c.in_err-offset.was (rw (p.1, p.2))
