-- `read::Outcome::residual_like` meets its contract, by the flag. Assumes nothing.
use mathlib.Core.Path.{refl}
use lib.Ieee.{of_bits}
use Rattle.binary32.specs.Ranges.{is_finite}
use Rattle.report_words.proofs.Outcomes.{like_cond}
use Rattle.report_words.proofs.read.Outcome.residual_like.Goals as goal

pub returns : goal.returns
unfolding is_finite of_bits
returns c = rw (c.then_some.ensures, c.yes_at.ensures) (like_cond _ _ _ refl)
