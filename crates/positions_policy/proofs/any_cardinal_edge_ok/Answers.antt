-- `positions_policy::any_cardinal_edge_ok` meets its contract. The loop's invariant: no edge is accepted so far, and what was found,
-- followed by the edges that are left, is the verdict. Assumes nothing.
use Prim.Native.Nat.{◌<◌}
use native.Mathlib.Omega.{arith}
use Rattle.positions_policy.specs.Edge.{cardinal_offsets, verdict_of}
use Rattle.positions_policy.proofs.Search.{opened, ended, passed, refused, stopped}
use Rattle.positions_policy.proofs.any_cardinal_edge_ok.Goals as goal
use Rattle.positions_policy.proofs.any_cardinal_edge_ok.Goals.{in-Refused, in-NonePresent}

pub loop-o-init : goal.loop-o-init
loop-o-init c = opened _

pub loop-o-preserved : goal.loop-o-preserved
unfolding cardinal_offsets
loop-o-preserved c =
    let so_far = c.loop-o.invariant in
    let more : c.loop-o.o-index < 4 = omega arith in
    let is = c.cardinal_edge.ensures in
    elim c.match-cardinal_edge.branch [
      | in-Refused w ↦ rw w.verdict-is (refused _ so_far more is w.in-Refused.is)
      | in-NonePresent w ↦ rw w.verdict-is (passed _ so_far more is w.in-NonePresent.is)
    ]

pub returns : goal.returns
unfolding verdict_of
returns c = ended _ c.loop-o.invariant (omega arith)

pub returns-in-Accepted : goal.returns-in-Accepted
unfolding verdict_of cardinal_offsets
returns-in-Accepted c =
    stopped _ c.loop-o.invariant (omega arith)
    c.cardinal_edge.ensures
    c.in-Accepted.is
