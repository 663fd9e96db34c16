-- `positions_policy::any_cardinal_edge_ok` meets its contract. The loop's invariant: no edge is accepted so far, and what was found,
-- followed by the edges that are left, is the verdict. Assumes nothing.
use Rattle.sheet.specs.Seeing.{seen_in}
use Rattle.positions_policy.specs.Edge.{edge_at}
use Rattle.positions_policy.proofs.Search.{Open}
use Rattle.positions_policy.proofs.any_cardinal_edge_ok.Given as goal

abbrev pub invariant-loop-o : goal.invariant-loop-o
invariant-loop-o l =
    Open (edge_at (seen_in l.seeing) l.tol l.c l.candidate) l.verdict l.o-index
