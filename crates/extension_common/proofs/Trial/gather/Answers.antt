-- `Trial::gather` meets its contract: the candidates are those of the sheet. Assumes nothing.
use mathlib.Core.Path.{◌∙◌}
use Rattle.extension_common.proofs.Laws.{gathered_tied}
use Rattle.extension_common.proofs.Trial.gather.Goals as goal

pub returns : goal.returns
returns c =
    let s = c.args.self.now in
    c.collect_candidates.ensures
    ∙ gathered_tied s.held.corners.now s.sheet.now s.held.used.now s.search.search_r s.c c.args.prediction c.requires c.kind_at.ensures
