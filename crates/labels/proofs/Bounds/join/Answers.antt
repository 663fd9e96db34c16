-- `labels::Bounds::join` meets its contract: the least and the greatest of two numbers, as the machine finds them. Assumes nothing.
use borrow.Author.Rules.{rules}
use Rattle.labels.proofs.Box.{min_lower, max_higher}
use Rattle.labels.proofs.Bounds.join.Goals as goal

pub returns : goal.returns
returns c = search (rules, min_lower, max_higher)
