-- `read::Outcome::role_counts_at` meets its contract, by the kind. Assumes nothing.
use mathlib.Core.Path.{sym, ap, ◌∙◌}
use Prim.Native.Nat.{ℕ}
use native.Mathlib.Omega.{arith}
use Rattle.passes.specs.declared.Counts.{Counts}
use Rattle.role_counts.specs.RoleCounts.{four_of, attached_alone}
use Rattle.report_words.proofs.Outcomes.{added_alone, all_four}
use Rattle.report_words.proofs.read.Outcome.role_counts_at.Goals as goal

pub returns-in-1-clause-value : goal.returns-in-1-clause-value
returns-in-1-clause-value c =
    c.attached_alone.ensures ∙ ap (λ (n : ℕ). attached_alone n) c.count_at.ensures.value ∙ added_alone _ _ (sym c.word_at.ensures ∙ c.in-1.is)

pub returns-in_default-clause-value : goal.returns-in_default-clause-value
returns-in_default-clause-value c =
    c.four_of.ensures ∙ ap (λ (n : Counts). four_of n) c.counts_at.ensures.value ∙ all_four _ _ (λ e. omega (arith, c.word_at.ensures, e))
