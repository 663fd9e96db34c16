-- `local_cell::LocalWork::find` meets its contract: what is gathered and found by the array of used corners is what the definitions gather and find.
-- Assumes nothing.
use Rattle.extension_common.proofs.Laws.{choosable, tried_with}
use Rattle.local_cell.proofs.Visit.{found_is}
use Rattle.local_cell.proofs.LocalWork.find.Goals as goal

pub try_candidates-found-requires : goal.try_candidates-found-requires
try_candidates-found-requires c = choosable _ _ _ _ _ _ c.held.result.corners.now.count.few c.gather-candidates.ensures

pub returns-clause-found : goal.returns-clause-found
returns-clause-found c = found_is _ _ _ _ c.search.ensures c.tolerances_of.ensures (rw c.held.ensures.corners at (tried_with _ _ _ _ _ _ c.gather-candidates.ensures c.try_candidates-found.ensures))
