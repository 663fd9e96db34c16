-- `choose_unambiguous` meets its contract, by what its closure says of two or more. Assumes nothing.
use Rattle.std.proofs.Common.{rules}
use Rattle.candidates.specs.Choice.{choose_unambiguous}
use Rattle.candidates.proofs.Choice.{unambiguous_by}
use Rattle.candidates.proofs.choose_unambiguous.Goals as goal

pub returns : goal.returns
unfolding choose_unambiguous
returns c = unambiguous_by _ (λ a second r h. search rules) _ c.choose.ensures
