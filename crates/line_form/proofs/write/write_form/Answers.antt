-- `write::write_form` meets its contract. The invariant: what is written and the text of what is left of the form make the text; behind it the part is as it was. Assumes nothing.
use Rattle.line_form.proofs.Writing.{piece_part, piece_written_lem, all_written}
use Rattle.line_form.proofs.write.write_form.Goals as goal

pub write_piece-at-requires : goal.write_piece-at-requires
write_piece-at-requires c = piece_part _ _ _ _ _ _ _ c.loop-c.invariant c.loop-c-test.true _ c.word_at.ensures

pub loop-c-preserved : goal.loop-c-preserved
loop-c-preserved c = piece_written_lem _ _ _ _ _ _ _ c.loop-c.invariant c.loop-c-test.true _ c.word_at.ensures _ _ _ c.write_piece-at.ensures c.words_of-k.ensures

pub returns : goal.returns
returns c = all_written _ _ _ _ _ _ _ c.loop-c.invariant c.loop-c-test.false
