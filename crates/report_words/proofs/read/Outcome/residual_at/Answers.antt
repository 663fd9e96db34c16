-- `read::Outcome::residual_at` meets its contract: the bits of a residual that passes the check are no NaN's. Assumes nothing.
use mathlib.Core.Path.{sym, ◌∙◌}
use Rattle.report_words.proofs.Outcomes.{residual_plain}
use Rattle.report_words.proofs.read.Outcome.residual_at.Goals as goal

pub then-requires : goal.then-requires
then-requires c = λ t κ l x f. rw c.word_at-word.ensures (residual_plain c.args.self.now.words.now c.args.self.now.k c.requires (sym c.yes_at.ensures ∙ t))
