-- `Trial::try_candidates` meets its contract: a corner that is chosen is tried at its edges. Assumes nothing.
use mathlib.Core.Path.{sym, ap, ◌∙◌}
use Rattle.std.proofs.lemmas.Result.{err_from_is_err_and}
use Rattle.extension_common.specs.TryCell.{result_of}
use Rattle.extension_common.proofs.Trial.try_candidates.Goals as goal

pub returns-in_err-k : goal.returns-in_err-k
unfolding result_of
returns-in_err-k c =
    let p = err_from_is_err_and c.from_residual.result c.from_residual.ensures.1 in
    rw (p.1, p.2) (ap (result_of _ _ _ _) c.in_err-k.ensures)

pub try_edges-requires : goal.try_edges-requires
try_edges-requires c = c.requires _ (sym c.in_ok-k.ensures)

pub returns : goal.returns
unfolding result_of
returns c = c.try_edges.ensures ∙ ap (result_of _ _ _ _) c.in_ok-k.ensures
