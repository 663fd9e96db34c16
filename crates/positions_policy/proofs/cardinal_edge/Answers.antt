-- `positions_policy::cardinal_edge` meets its contract, by what is seen at the neighbour's cell. Assumes nothing.
use mathlib.Core.Path.{◌≡◌, refl}
use Rattle.sheet.specs.Cells.{moved}
use Rattle.sheet.specs.Seeing.{seen_in}
use Rattle.positions_policy.proofs.Search.{seen_beside, edge_none, edge_accepted, edge_refused}
use Rattle.positions_policy.proofs.cardinal_edge.Goals as goal
use Rattle.positions_policy.proofs.cardinal_edge.Goals.{After-at}

-- what is seen is what is seen at the neighbour's cell
at : (c : After-at)
    → let a = c.args in
    c.at.result ≡ seen_in a.seeing (moved a.c a.o)
at c =
    let a = c.args in
    seen_beside (seen_in a.seeing) a.c
    c.at.ensures
    c.neighbour.ensures
    refl

pub returns-in-None : goal.returns-in-None
returns-in-None c =
    let a = c.args in
    edge_none a.tol a.candidate (at (goal.at.returns-in-None c).After-at) c.in-None.is

pub returns-then-edge_ok : goal.returns-then-edge_ok
returns-then-edge_ok c =
    let a = c.args in
    edge_accepted a.tol a.candidate (at (goal.at.returns-then-edge_ok c).After-at) c.in-Some.is
    c.edge_ok.ensures
    c.if-edge_ok.true

pub returns-else-edge_ok : goal.returns-else-edge_ok
returns-else-edge_ok c =
    let a = c.args in
    edge_refused a.tol a.candidate (at (goal.at.returns-else-edge_ok c).After-at) c.in-Some.is
    c.edge_ok.ensures
    c.if-edge_ok.false
