-- No line of a result is longer than 127 bytes. Assumes nothing.
use mathlib.Core.Path.{◌≡◌, refl}
use mathlib.Core.Bool.{Bool, true, false, cond}
use mathlib.Core.List.{List}
use Prim.Native.Nat.{ℕ, zero, suc, ◌-◌, ◌≤◌, ◌<◌}
use native.Mathlib.Omega.{arith}
use borrow.Author.Tests.{ltb-true, ltb-false}
use lib.Dec.{ltb, eqb}
use lib.ListN.{length}
use Rattle.labels.proofs.Below.{any_none}
use Rattle.roles.specs.Roles.{role_numbered}
use Rattle.role_counts.specs.RoleCounts.{sum_for}
use Rattle.report_line.specs.Result.{pass_line, role_line, line_of_role, sheet_line, pass_line_at, after_passes, result_line, line_count}
use Rattle.passes.specs.declared.PassStats.{PassStats}
use Rattle.report.specs.WriteResult.{TextLent, wild}
use Rattle.report_words.specs.Outcomes.{wild_outcome, word_at, counts_at, stats_at, outcomes_in}
use Rattle.report_line.specs.Written.{Few}
use Rattle.report_line.proofs.RoleLine.{role_short}
use Rattle.report_line.proofs.Short.{grow_short, fill_short, local_short, sheet_short}
use Rattle.report_words.specs.Asked.{grow_at, fill_at, local_at, Tame}
use Rattle.report.specs.Asked.{line_at}
use Rattle.report.proofs.Sums.{sums_held}
use Rattle.report_words.proofs.Outcomes.{tame, outcomes_length, pass_line_at_lem, unmatched_few}

-- each outcome passes the check
pub all_tame : (l : TextLent) → wild l ≡ false → (k : ℕ) → k < l.passes → Tame l.words k
unfolding wild
all_tame l e k h = tame l.words k (any_none (wild_outcome l.words) l.passes k e h)

-- the line of an outcome that passes the check
pub pass_short : (words : List ℕ) (k : ℕ) → Tame words k → length (pass_line (stats_at words k)) ≤ 127
unfolding pass_line stats_at
pass_short words k h = go (eqb (word_at words k 0) 0) (eqb (word_at words k 0) 1)
  where
    few : Few (counts_at words k)
    few = record { attached = omega (arith, h.attached); no_candidate = omega (arith, h.no_candidate); ambiguous = omega (arith, h.ambiguous); edge = omega (arith, h.edge) }

    go : (a b : Bool) → length (pass_line (cond a (PassStats.Grow (grow_at words k)) (cond b (PassStats.Fill (fill_at words k)) (PassStats.Local (local_at words k))))) ≤ 127
    go true b = grow_short _ few
    go false true = fill_short _ (omega (arith, h.attached)) (omega (arith, h.rounds))
    go false false = local_short _ few (omega (arith, h.rounds)) (λ n e. omega (arith, unmatched_few words k h n e))

-- the line behind those of the passes: of a role, or of the sheet
behind_short : (passes : ℕ) (words sheet : List ℕ) → passes ≤ 16 → ((k : ℕ) → k < passes → Tame words k) → (m : ℕ) → m < 49155 → length (after_passes (outcomes_in passes words) sheet m) ≤ 127
unfolding after_passes line_of_role
behind_short passes words sheet f t m h = go (ltb m 3) refl
  where
    go : (b : Bool) → ltb m 3 ≡ b → length (cond b (role_line (role_numbered m) (sum_for (role_numbered m) (outcomes_in passes words))) (sheet_line sheet (m - 3))) ≤ 127
    go true p = role_short (role_numbered m) _ (sums_held (role_numbered m) passes words f t)
    go false p = let l = ltb-false m 3 p in sheet_short sheet (m - 3) (omega arith)

-- ---- every line

-- "No line is longer than 127 bytes"
pub tame_short : (passes : ℕ) (words sheet : List ℕ) → passes ≤ 16 → ((k : ℕ) → k < passes → Tame words k) → (k : ℕ) → k < line_count passes → length (line_at passes words sheet k) ≤ 127
unfolding line_at result_line
tame_short passes words sheet f t zero h = omega arith
tame_short passes words sheet f t (suc k) h = rw (outcomes_length words 0 passes) (go (ltb k passes) refl)
  where
    go : (b : Bool) → ltb k passes ≡ b → length (cond b (pass_line_at (outcomes_in passes words) k) (after_passes (outcomes_in passes words) sheet (k - passes))) ≤ 127
    go true p =
        let l = ltb-true k passes p in
        rw (pass_line_at_lem words 0 passes k k l (omega arith)) (pass_short words k (t k l))
    go false p = let l = ltb-false k passes p in behind_short passes words sheet f t (k - passes) (omega arith)

pub line_short : (l : TextLent) → l.passes ≤ 16 → wild l ≡ false → (k : ℕ) → k < line_count l.passes → length (result_line (outcomes_in l.passes l.words) l.sheet k) ≤ 127
unfolding line_at
line_short l f e k h = tame_short l.passes l.words l.sheet f (all_tame l e) k h
