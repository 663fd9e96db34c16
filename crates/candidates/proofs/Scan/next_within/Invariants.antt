-- `Scan::next_within` meets its contract. The loop's invariant: no corner passed is a candidate. The measure is what is left of the corners. Assumes nothing.
use Prim.Native.Nat.{◌-◌, ◌≤◌}
use Rattle.candidates.specs.Candidates.{positions_in, eligible_in}
use Rattle.candidates.proofs.Scanning.{NoneBefore}
use Rattle.candidates.proofs.Scan.next_within.Given as goal

abbrev pub invariant-loop-k : goal.invariant-loop-k
invariant-loop-k l =
    let s = l.self in
    record { on : l.from ≤ l.k; within : l.k ≤ s.held.corners.now.count.number; none : NoneBefore (positions_in s.held.corners.now) (eligible_in s.held.corners.now s.held.used.now s.kind) s.prediction l.limit l.from l.k }

abbrev pub decreases-loop-k : goal.decreases-loop-k
decreases-loop-k l = l.self.held.corners.now.count.number - l.k
