-- `Scan::collect_candidates` meets its contract. The loop's invariant: what was found is the first two of the candidates before the corner at hand, and
-- the limit is right for them. The measure is what is left of the corners. Assumes nothing.
use Prim.Native.Nat.{◌-◌}
use Rattle.candidates.specs.Candidates.{eligible_in}
use Rattle.candidates.proofs.Scanning.{Scanned}
use Rattle.candidates.proofs.Scan.collect_candidates.Given as goal

abbrev pub invariant-loop-k : goal.invariant-loop-k
invariant-loop-k l =
    let s = l.self in
    Scanned s.held.corners.now (eligible_in s.held.corners.now s.held.used.now s.kind) s.held.corners.now.count.number s.prediction l.search_r l.found l.from

abbrev pub decreases-loop-k : goal.decreases-loop-k
decreases-loop-k l = l.self.held.corners.now.count.number - l.from
