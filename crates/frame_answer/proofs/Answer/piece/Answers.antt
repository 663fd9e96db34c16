-- `frame_answer::Answer::piece` meets its contract: the piece of a result is not refused, and goes on by a line at least. Assumes nothing.
use Rattle.std.proofs.Common.{◌<◌, ◌≤◌, arith}
use Rattle.report_line.specs.Result.{line_count}
use Rattle.frame_answer.specs.Answer.{held_lines, held_piece, CanSay, Printable}
use Rattle.frame_answer.proofs.Printing.{wrote_piece, not_refused, room_for, moves_result, wrote_refused}
use Rattle.frame_answer.proofs.Answer.piece.Goals as goal

pub unwrap-requires : goal.unwrap-requires
unfolding CanSay held_lines
unwrap-requires c =
    let a = c.args.self.now in
    let q = c.requires in
    let r = c.in-Ok.field-0 in
    let can : Printable r.corners r.passes a.words.now a.sheet.now = rw c.in-Ok.is at a.can_say in
    let below : c.args.from < line_count r.passes = rw c.in-Ok.is at q.from_bound in
    not_refused _ _ _ _ can _ below _ q.line_room_in_bounds _ (rw c.in-Ok.is at c.write_result_piece.ensures.out_after)

pub write_refused-requires-clause-line_bound : goal.write_refused-requires-clause-line_bound
unfolding CanSay
write_refused-requires-clause-line_bound c = let bound : c.in-Err.field-0.line ≤ 10000000 = rw c.in-Err.is at c.args.self.now.can_say in rw c.in-Err.is bound

pub returns-in-Ok : goal.returns-in-Ok
unfolding CanSay held_lines held_piece
returns-in-Ok c =
    let a = c.args.self.now in
    let q = c.requires in
    let r = c.in-Ok.field-0 in
    let can : Printable r.corners r.passes a.words.now a.sheet.now = rw c.in-Ok.is at a.can_say in
    let below : c.args.from < line_count r.passes = rw c.in-Ok.is at q.from_bound in
    let w = wrote_piece _ _ _ _ can _ below _ q.line_room_in_bounds (rw (c.in-Ok.is, c.unwrap.ensures) at c.write_result_piece.ensures.out_after) in
    record { wrote_piece = rw c.in-Ok.is w; moves = moves_result _ _ _ below q.line_room_in_bounds w c.write_result_piece.auto.out }

pub returns-in-Err : goal.returns-in-Err
unfolding held_lines held_piece
returns-in-Err c =
    let e = c.in-Err.field-0 in
    let first : c.args.from < 1 = rw c.in-Err.is at c.requires.from_bound in
    record {
      wrote_piece = rw c.in-Err.is (wrote_refused e.refusal e.line c.args.from first (rw c.in-Err.is at c.write_refused.ensures));
      moves = record { in_room = room_for c.write_refused.ensures c.write_refused.auto.out; later = omega arith };
    }
