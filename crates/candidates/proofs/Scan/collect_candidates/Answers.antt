-- `Scan::collect_candidates` meets its contract. The loop's invariant: what was found is the first two of the candidates before the corner at hand, and the
-- limit is right for them. The measure is what is left of the corners. Assumes nothing.
use mathlib.Core.Bool.{not}
use mathlib.Core.Path.{sym, ◌∙◌, ap}
use borrow.Author.Tests.{not-true, not-false}
use Rattle.candidates.specs.Candidates.{eligible_in}
use Rattle.candidates.proofs.Scanning.{nowhere, scanned_start, scanned_more, scanned_all}
use Rattle.candidates.proofs.Scan.collect_candidates.Goals as goal

pub returns-then-not-is_finite : goal.returns-then-not-is_finite
returns-then-not-is_finite c = let a = c.args.self.now in
    nowhere a.held.corners.now (eligible_in a.held.corners.now a.held.used.now a.kind) a.held.corners.now.count.number a.prediction c.args.search_r (sym c.is_finite.ensures ∙ not-true _ (ap not c.if-not-is_finite.true))

pub loop-k-init : goal.loop-k-init
loop-k-init c = let a = c.args.self.now in scanned_start a.held.corners.now (eligible_in a.held.corners.now a.held.used.now a.kind) a.held.corners.now.count.number a.prediction c.args.search_r

pub loop-k-preserved : goal.loop-k-preserved
loop-k-preserved c = let a = c.args.self.now in
    scanned_more a.held.corners.now (eligible_in a.held.corners.now a.held.used.now a.kind) a.held.corners.now.count.number a.prediction c.args.search_r _ _ _ _ c.loop-k.invariant (rw c.limit.ensures at c.in-Some.ensures) (rw c.measure.ensures at c.keep-found.ensures)

pub returns : goal.returns
returns c = let a = c.args.self.now in
    c.candidates.ensures
    ∙ scanned_all a.held.corners.now (eligible_in a.held.corners.now a.held.used.now a.kind) a.held.corners.now.count.number a.prediction c.args.search_r _ _ c.loop-k.invariant (rw c.limit.ensures at c.in_default.ensures)
    (sym c.is_finite.ensures ∙ not-false _ (ap not c.if-not-is_finite.false))
