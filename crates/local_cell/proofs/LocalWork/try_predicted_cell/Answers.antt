-- `local_cell::LocalWork::try_predicted_cell` meets its contract: what is passed over is counted, and the cell is tried. Assumes nothing.
use mathlib.Core.Path.{◌≡◌, refl}
use Rattle.extension_common.specs.TryCell.{unmatched}
use Rattle.passes.specs.Local.{local_search}
use Rattle.local_cell.specs.Work.{held}
use Rattle.local_cell.proofs.Visit.{unmatched_is}
use Rattle.local_cell.proofs.Memory.{passed_fits, passed_left, passed_recalls}
use Rattle.local_cell.proofs.LocalWork.try_predicted_cell.Goals as goal
use Rattle.local_cell.proofs.LocalWork.try_predicted_cell.Goals.{After-try_candidates_of}

passed : (c : After-try_candidates_of) → let a = c.args in c.count_unmatched-passed.result ≡ unmatched (held a.self.now) a.self.now.sheet.now (local_search a.self.now.setup.settings a.self.now.setup.params).search_r a.target.cell a.target.prediction
passed c = unmatched_is c.args.self.now _ _ _ c.count_unmatched-passed.ensures

pub pass_over-requires : goal.pass_over-requires
pass_over-requires c = passed_fits _ _ _ _ _ c.requires.trying.countable c.args.self.now.setup.corners.now.count.few c.requires.recalls c.try_candidates_of.new.self c.try_candidates_of.ensures.left (passed (goal.at.pass_over-requires c).After-try_candidates_of)

pub returns-clause-left : goal.returns-clause-left
returns-clause-left c = passed_left _ _ _ _ _ c.requires.trying.countable c.args.self.now.setup.corners.now.count.few c.requires.recalls c.try_candidates_of.new.self c.try_candidates_of.ensures.left (passed (goal.at.returns-clause-left c).After-try_candidates_of) c.pass_over.ensures

pub returns-clause-recalls : goal.returns-clause-recalls
returns-clause-recalls c = passed_recalls _ _ _ _ _ c.requires.trying.countable c.args.self.now.setup.corners.now.count.few c.requires.recalls c.try_candidates_of.new.self c.try_candidates_of.ensures.left (passed (goal.at.returns-clause-recalls c).After-try_candidates_of) c.pass_over.ensures c.try_candidates_of.ensures.recalls refl
