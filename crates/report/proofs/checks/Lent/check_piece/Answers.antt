-- `checks::Lent::check_piece` meets its contract: each refusal by the tests that passed before it. Assumes nothing.
use mathlib.Core.Path.{sym, ◌∙◌}
use native.Mathlib.Omega.{arith}
use Rattle.report.specs.WriteResult.{text_lent}
use Rattle.report.proofs.Checking.{all_lent, piece_7, piece_7_too, piece_rest}
use Rattle.report.proofs.checks.Lent.check_piece.Goals as goal
use Rattle.report.proofs.checks.Lent.check_piece.Goals.{then-input_short-via-then-input_short, then-input_short-via-else-input_short+then-room-lt-LINE_ROOM}

pub returns-then-input_short : goal.returns-then-input_short
returns-then-input_short c =
    elim c.then-input_short.branch [
      | then-input_short-via-then-input_short w ↦ piece_7 (text_lent c.args.self.now.corners c.args.self.now.passes c.args.self.now.words.now c.args.self.now.sheet.now) c.args.from c.args.room (sym c.input_short.ensures ∙ w.if-input_short.true)
      | then-input_short-via-else-input_short+then-room-lt-LINE_ROOM w ↦
          piece_7_too (text_lent c.args.self.now.corners c.args.self.now.passes c.args.self.now.words.now c.args.self.now.sheet.now) c.args.from c.args.room (sym c.input_short.ensures ∙ w.if-input_short.false) w.if-room-lt-LINE_ROOM.true
    ]

pub overflow_add-self : goal.overflow_add-self
overflow_add-self c = let w = (all_lent (text_lent c.args.self.now.corners c.args.self.now.passes c.args.self.now.words.now c.args.self.now.sheet.now) (sym c.input_short.ensures ∙ c.if-input_short.false)).words_long in omega arith

pub check_rest-requires : goal.check_rest-requires
check_rest-requires c = all_lent (text_lent c.args.self.now.corners c.args.self.now.passes c.args.self.now.words.now c.args.self.now.sheet.now) (sym c.input_short.ensures ∙ c.if-input_short.false)

pub returns : goal.returns
returns c = c.check_rest.ensures ∙ piece_rest (text_lent c.args.self.now.corners c.args.self.now.passes c.args.self.now.words.now c.args.self.now.sheet.now) c.args.from c.args.room (sym c.input_short.ensures ∙ c.if-input_short.false) c.if-room-lt-LINE_ROOM.false
