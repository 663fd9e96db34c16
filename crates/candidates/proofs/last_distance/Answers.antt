-- `last_distance` meets its contract. Assumes nothing.
use Rattle.candidates.specs.Candidates.{last_distance}
use Rattle.candidates.proofs.last_distance.Goals as goal

pub returns-in-Empty : goal.returns-in-Empty
unfolding last_distance
returns-in-Empty c = rw c.in-Empty.is

pub returns-in-One : goal.returns-in-One
unfolding last_distance
returns-in-One c = rw c.in-One.is

pub returns-in-Several : goal.returns-in-Several
unfolding last_distance
returns-in-Several c = rw c.in-Several.is
