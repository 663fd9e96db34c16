-- `write_result_piece` meets its contract: refused as the check says, and else the piece. Assumes nothing.
use mathlib.Core.Path.{sym, ◌∙◌}
use Rattle.std.proofs.lemmas.Result.{err_from_is_err_and}
use Rattle.report.specs.WriteResult.{text_lent}
use Rattle.report.proofs.Answers.{piece_asked, piece_refused, piece_written_lem}
use Rattle.report.proofs.write_result_piece.Goals as goal

pub returns-in_err-check_piece : goal.returns-in_err-check_piece
returns-in_err-check_piece c =
    let p = err_from_is_err_and c.from_residual.result c.from_residual.ensures.1 in
    let both_clauses =
    piece_refused (text_lent c.args.corners c.args.passes c.args.words.now c.args.sheet.now) c.args.from c.args.out.now _ (sym c.check_piece.ensures ∙ c.in_err-check_piece.was) in
    record { out_after = rw (p.1, p.2) both_clauses.0; said = rw (p.1, p.2) both_clauses.1 }

pub source-requires : goal.source-requires
source-requires c = (piece_asked (text_lent c.args.corners c.args.passes c.args.words.now c.args.sheet.now) c.args.from c.args.out.now (sym c.check_piece.ensures ∙ c.in_ok-check_piece.was)).sound.all

pub write_some-requires : goal.write_some-requires
write_some-requires c = rw (c.source.ensures.passes, c.source.ensures.words, c.source.ensures.sheet) (piece_asked (text_lent c.args.corners c.args.passes c.args.words.now c.args.sheet.now) c.args.from c.args.out.now (sym c.check_piece.ensures ∙ c.in_ok-check_piece.was))

pub returns : goal.returns
returns c =
    let both_clauses =
    piece_written_lem (text_lent c.args.corners c.args.passes c.args.words.now c.args.sheet.now) c.args.from c.args.out.now _ _ (sym c.check_piece.ensures ∙ c.in_ok-check_piece.was) (rw (← c.source.ensures.passes, ← c.source.ensures.words, ← c.source.ensures.sheet) c.write_some.ensures) in
    record { out_after = both_clauses.0; said = both_clauses.1 }
