-- `Trial::try_attach_at_cell` meets its contract, by the candidates that were gathered. Assumes nothing.
use Rattle.extension_common.proofs.Laws.{choosable, tried_with}
use Rattle.extension_common.proofs.Trial.try_attach_at_cell.Goals as goal

pub try_candidates-requires : goal.try_candidates-requires
try_candidates-requires c = choosable _ _ _ _ _ _ c.args.self.now.held.corners.now.count.few c.gather-candidates.ensures

pub returns : goal.returns
returns c = tried_with _ _ _ _ _ _ c.gather-candidates.ensures c.try_candidates.ensures
