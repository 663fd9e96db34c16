-- `count_passed_over` meets its contract: none if no shade stands or if the prediction is not finite, and else those that the test passes. Assumes nothing.
use mathlib.Core.Bool.{Bool, not}
use mathlib.Core.Path.{sym, ap, ◌∙◌}
use Prim.Native.Nat.{ℕ}
use borrow.Author.Tests.{not-true, not-false}
use Rattle.std.proofs.Common.{rules, tests, arith}
use Rattle.std.proofs.lemmas.Iterator.{YieldsList-from_range}
use Rattle.std.proofs.lemmas.Iterator.Consumers.{YieldsList-from_filter, count_from_yields_List}
use Rattle.sheet.specs.Shades.{takes_kind, shades_in}
use Rattle.sheet.proofs.Shades.{takes_every}
use Rattle.candidates.specs.Candidates.{positions_in, unmarked, squared_radius}
use Rattle.passed_over.specs.PassedOver.{is_passed_over}
use Rattle.passed_over.proofs.Laws.{none_passed_over, over_nowhere, over_somewhere}
use Rattle.passed_over.proofs.count_passed_over.Goals as goal
use Rattle.passed_over.proofs.count_passed_over.Goals.{Start, then-not-is_shaded-via-then-not-is_shaded, then-not-is_shaded-via-else-not-is_shaded+then-not-is_finite}

-- what a cell of the kind takes
abbrev kinds : Start → ℕ → Bool
kinds c = takes_kind (shades_in c.args.scan.now.held.corners.now) c.args.scan.now.kind

pub returns-then-not-is_shaded : goal.returns-then-not-is_shaded
returns-then-not-is_shaded c =
    let a = c.args.scan.now in
    let taken = kinds (goal.at.returns-then-not-is_shaded c).Start in
    elim c.then-not-is_shaded.branch [
      | then-not-is_shaded-via-then-not-is_shaded w ↦
          sym (none_passed_over (positions_in a.held.corners.now) (unmarked a.held.used.now) taken a.held.corners.now.count.number a.prediction c.args.search_r
          (λ k h. takes_every (shades_in a.held.corners.now) a.kind k (sym c.is_shaded.ensures ∙ not-true _ (ap not w.if-not-is_shaded.true))))
      | then-not-is_shaded-via-else-not-is_shaded+then-not-is_finite w ↦
          over_nowhere (positions_in a.held.corners.now) (unmarked a.held.used.now) taken a.prediction a.held.corners.now.count.number c.args.search_r (sym w.is_finite.ensures ∙ not-true _ (ap not w.if-not-is_finite.true))
    ]

pub returns : goal.returns
returns c =
    let a = c.args.scan.now in
    let taken = kinds (goal.at.returns c).Start in
    let test = is_passed_over (positions_in a.held.corners.now) (unmarked a.held.used.now) taken a.prediction (squared_radius c.args.search_r) in
    count_from_yields_List _ c.count.result c.count.ensures.ran (YieldsList-from_filter _ test (YieldsList-from_range 0 a.held.corners.now.count.number a.held.corners.now.count.number (cc) (omega arith)) c.filter.ensures.closure (λ x b q k. search (rules, tests)))
    ∙ over_somewhere (positions_in a.held.corners.now) (unmarked a.held.used.now) taken a.prediction a.held.corners.now.count.number c.args.search_r (sym c.is_finite.ensures ∙ not-false _ (ap not c.if-not-is_finite.false))
