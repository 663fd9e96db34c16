-- `write_result` meets its contract: refused as the check says, and else the whole text. Assumes nothing.
use mathlib.Core.Path.{sym, ◌∙◌}
use Rattle.std.proofs.lemmas.Result.{err_from_is_err_and}
use Rattle.report.specs.WriteResult.{text_lent}
use Rattle.report.proofs.Answers.{text_asked, text_refused, text_written_lem}
use Rattle.report.proofs.write_result.Goals as goal

pub returns-in_err-check_text : goal.returns-in_err-check_text
returns-in_err-check_text c =
    let p = err_from_is_err_and c.from_residual.result c.from_residual.ensures.1 in
    let both_clauses =
    text_refused (text_lent c.args.corners c.args.passes c.args.words.now c.args.sheet.now) c.args.out.now _ (sym c.check_text.ensures ∙ c.in_err-check_text.was) in
    record { out_after = rw (p.1, p.2) both_clauses.0; said = rw (p.1, p.2) both_clauses.1 }

pub source-requires : goal.source-requires
source-requires c = (text_asked (text_lent c.args.corners c.args.passes c.args.words.now c.args.sheet.now) c.args.out.now (sym c.check_text.ensures ∙ c.in_ok-check_text.was)).sound.all

pub write_all-requires : goal.write_all-requires
write_all-requires c = rw (c.source.ensures.passes, c.source.ensures.words, c.source.ensures.sheet) (text_asked (text_lent c.args.corners c.args.passes c.args.words.now c.args.sheet.now) c.args.out.now (sym c.check_text.ensures ∙ c.in_ok-check_text.was))

pub returns : goal.returns
returns c =
    let both_clauses =
    text_written_lem (text_lent c.args.corners c.args.passes c.args.words.now c.args.sheet.now) c.args.out.now _ _ (sym c.check_text.ensures ∙ c.in_ok-check_text.was) (rw (← c.source.ensures.passes, ← c.source.ensures.words, ← c.source.ensures.sheet) c.write_all.ensures) in
    record { out_after = both_clauses.0; said = both_clauses.1 }
