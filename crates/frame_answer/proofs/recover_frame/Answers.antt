-- `recover_frame` meets its contract: a refused frame changes nothing, and the passes of an accepted one have run. Assumes nothing.
use Rattle.std.proofs.lemmas.Result.{err_from_is_err_and}
use Rattle.frame_answer.proofs.Recovering.{recovered_not, read_accepted, passes_ready, corners_ready, box_read, recovered}
use Rattle.frame_answer.proofs.recover_frame.Goals as goal

pub returns-in_err-head : goal.returns-in_err-head
returns-in_err-head c =
    let p = err_from_is_err_and c.from_residual.result c.from_residual.ensures.1 in
    rw (p.1, p.2) (recovered_not _ _ _ _ _ _ _ c.requires.frame_room _ _ _ _ _ _ _ (rw c.in_err-head.was at c.read_frame.ensures.passes_after) _ _ _)

pub run_frame-requires-clause-pass_words : goal.run_frame-requires-clause-pass_words
run_frame-requires-clause-pass_words c =
    let room = c.requires.frame_room in
    passes_ready _ _ _ _ _ _ _ room _ _ _ _ _ _ _ (read_accepted _ _ _ _ _ _ _ room _ _ _ _ _ _ _ c.in_ok-head.ensures.passes_after)

pub run_frame-requires-clause-at_front : goal.run_frame-requires-clause-at_front
run_frame-requires-clause-at_front c =
    let room = c.requires.frame_room in
    corners_ready _ _ _ _ _ _ _ room _ _ _ _ _ _ _ (read_accepted _ _ _ _ _ _ _ room _ _ _ _ _ _ _ c.in_ok-head.ensures.passes_after)

pub run_frame-requires-clause-box_read : goal.run_frame-requires-clause-box_read
run_frame-requires-clause-box_read c =
    let room = c.requires.frame_room in
    box_read _ _ _ _ _ _ _ room _ _ _ _ _ _ _ (read_accepted _ _ _ _ _ _ _ room _ _ _ _ _ _ _ c.in_ok-head.ensures.passes_after)

pub returns : goal.returns
returns c =
    let room = c.requires.frame_room in
    recovered _ _ _ _ _ _ _ room _ _ _ _ _ _ _ (read_accepted _ _ _ _ _ _ _ room _ _ _ _ _ _ _ c.in_ok-head.ensures.passes_after) _ _ _ c.requires.pass_room _ _ c.run_frame.ensures
