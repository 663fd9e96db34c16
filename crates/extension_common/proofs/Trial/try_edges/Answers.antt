-- `Trial::try_edges` meets its contract, by whether the verdict passes. Assumes nothing.
use Rattle.extension_common.proofs.Laws.{edges_refuse, edges_pass}
use Rattle.extension_common.proofs.Trial.try_edges.Goals as goal

pub returns-then-passes : goal.returns-then-passes
returns-then-passes c = edges_pass _ _ _ _ _ c.seeing.ensures c.corner_at-candidate.ensures c.any_cardinal_edge_ok-verdict.ensures c.passes.ensures c.if-passes.true

pub returns-else-passes : goal.returns-else-passes
returns-else-passes c = edges_refuse _ _ _ _ _ c.seeing.ensures c.corner_at-candidate.ensures c.any_cardinal_edge_ok-verdict.ensures c.passes.ensures c.if-passes.false
