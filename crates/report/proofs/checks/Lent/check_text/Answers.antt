-- `checks::Lent::check_text` meets its contract: each refusal by the tests that passed before it. Assumes nothing.
use mathlib.Core.Path.{sym, ◌∙◌}
use Rattle.report.specs.WriteResult.{text_lent}
use Rattle.report.proofs.Checking.{all_lent, text_7, text_7_too, text_rest}
use Rattle.report.proofs.checks.Lent.check_text.Goals as goal
use Rattle.report.proofs.checks.Lent.check_text.Goals.{then-input_short-via-then-input_short, then-input_short-via-else-input_short+then-text_short}

pub returns-then-input_short : goal.returns-then-input_short
returns-then-input_short c =
    elim c.then-input_short.branch [
      | then-input_short-via-then-input_short w ↦ text_7 (text_lent c.args.self.now.corners c.args.self.now.passes c.args.self.now.words.now c.args.self.now.sheet.now) c.args.room (sym c.input_short.ensures ∙ w.if-input_short.true)
      | then-input_short-via-else-input_short+then-text_short w ↦
          text_7_too (text_lent c.args.self.now.corners c.args.self.now.passes c.args.self.now.words.now c.args.self.now.sheet.now) c.args.room (sym c.input_short.ensures ∙ w.if-input_short.false) (sym w.text_short.ensures ∙ w.if-text_short.true)
    ]

pub text_short-requires : goal.text_short-requires
text_short-requires c = all_lent (text_lent c.args.self.now.corners c.args.self.now.passes c.args.self.now.words.now c.args.self.now.sheet.now) (sym c.input_short.ensures ∙ c.if-input_short.false)

pub check_rest-requires : goal.check_rest-requires
check_rest-requires c = all_lent (text_lent c.args.self.now.corners c.args.self.now.passes c.args.self.now.words.now c.args.self.now.sheet.now) (sym c.input_short.ensures ∙ c.if-input_short.false)

pub returns : goal.returns
returns c = c.check_rest.ensures ∙ text_rest (text_lent c.args.self.now.corners c.args.self.now.passes c.args.self.now.words.now c.args.self.now.sheet.now) c.args.room (sym c.input_short.ensures ∙ c.if-input_short.false) (sym c.text_short.ensures ∙ c.if-text_short.false)
