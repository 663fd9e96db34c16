-- `local_cell::LocalWork::try_local_cell` meets its contract: by what is known of the cell. Assumes nothing.
use mathlib.Core.Path.{refl}
use Rattle.local_cell.proofs.Visit.{untouched, left_as, found_none, found_ambiguous}
use Rattle.local_cell.proofs.Memory.{known_idle, known_no_candidates, known_ambiguous, known_predicted, known_foretold}
use Rattle.local_cell.proofs.LocalWork.try_local_cell.Goals as goal

pub try_predicted_cell-requires-clause-foretold : goal.try_predicted_cell-requires-clause-foretold
try_predicted_cell-requires-clause-foretold c = let f = known_foretold c.args.c c.requires.trying.on c.requires.recalls c.recall.ensures.said c.in-Some.is c.in-Predicted.is c.recall.ensures.notable in record { known = f.known; small = f.small }

pub returns-in-Idle-clause-left : goal.returns-in-Idle-clause-left
returns-in-Idle-clause-left c = untouched c.args.self.now.extending (known_idle _ c.requires.trying.on c.requires.recalls c.recall.ensures.said c.in-Some.is _ c.in-Idle.is)

pub returns-in-NoCandidates-clause-left : goal.returns-in-NoCandidates-clause-left
returns-in-NoCandidates-clause-left c = left_as (known_no_candidates _ c.requires.trying.on c.requires.recalls c.recall.ensures.said c.in-Some.is _ c.in-NoCandidates.is) (found_none c.args.self.now.extending _ refl c.count_cell.ensures refl)

pub returns-in-Ambiguous-clause-left : goal.returns-in-Ambiguous-clause-left
returns-in-Ambiguous-clause-left c = left_as (known_ambiguous _ c.requires.trying.on c.requires.recalls c.recall.ensures.said c.in-Some.is _ c.in-Ambiguous.is) (found_ambiguous c.args.self.now.extending _ refl c.count_cell-in-Ambiguous.ensures refl)

pub returns-in-Predicted-clause-left : goal.returns-in-Predicted-clause-left
returns-in-Predicted-clause-left c = left_as (known_predicted _ c.requires.trying.on c.requires.recalls c.recall.ensures.said c.in-Some.is c.in-Predicted.is _) c.try_predicted_cell.ensures.left
