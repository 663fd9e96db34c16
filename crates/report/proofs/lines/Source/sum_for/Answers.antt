-- `lines::Source::sum_for` meets its contract: the sums over the outcomes before number k. Assumes nothing.
use mathlib.Core.Path.{◌≡◌, sym, ap, ◌∙◌}
use Prim.Native.Nat.{ℕ}
use native.Mathlib.Omega.{arith}
use Rattle.roles.specs.Roles.{role_number}
use Rattle.roles.specs.declared.Role.{Role}
use Rattle.role_counts.proofs.Sums.{fewer}
use Rattle.report_words.specs.Outcomes.{outcomes_in}
use Rattle.role_counts.specs.RoleCounts.{sum_for}
use Rattle.report.proofs.Sums.{none_is, summing_start, summing_on, summing_past}
use Rattle.report.proofs.lines.Source.sum_for.Goals as goal
use Rattle.report.proofs.lines.Source.sum_for.Goals.{then-number, else-number}

pub loop-k-init : goal.loop-k-init
loop-k-init c =
    let d = c.default-sum.ensures in
    rw (none_is c.default-sum.result d.0 d.1.0 d.1.1.0 d.1.1.1) (summing_start c.args.role c.args.self.now.words.now)

pub plus-sum-requires-clause-these : goal.plus-sum-requires-clause-these
plus-sum-requires-clause-these c = fewer _ _ (omega arith) c.loop-k.sum c.loop-k.invariant.few

pub loop-k-preserved : goal.loop-k-preserved
loop-k-preserved c =
    elim c.if-number.branch [
      | then-number w ↦
          let same : role_number _ ≡ role_number c.args.role = ap (λ (r : Role). role_number r) (sym c.role_at.ensures) ∙ sym c.number.ensures ∙ w.if-number.true ∙ c.number-in-loop-k.ensures in
          rw (w.sum-is, w.plus-sum.ensures)
          (summing_on c.args.role c.args.self.now.words.now c.loop-k.k c.loop-k.sum c.loop-k.invariant same w.role_counts_at.result w.role_counts_at.ensures.value w.role_counts_at.ensures.fits)
      | else-number w ↦
          rw w.sum-is
          (summing_past c.args.role c.args.self.now.words.now c.loop-k.k c.loop-k.sum c.loop-k.invariant
          (λ e. w.if-number.false (c.number.ensures ∙ ap (λ (r : Role). role_number r) c.role_at.ensures ∙ e ∙ sym c.number-in-loop-k.ensures)))
    ]

pub returns-clause-value : goal.returns-clause-value
returns-clause-value c = let e : c.loop-k.k ≡ c.args.self.now.passes = omega (arith, c.loop-k-test.false) in c.loop-k.invariant.is ∙ ap (λ (n : ℕ). sum_for c.args.role (outcomes_in n c.args.self.now.words.now)) e

pub returns-clause-few : goal.returns-clause-few
returns-clause-few c = fewer _ _ (omega arith) c.loop-k.sum c.loop-k.invariant.few
