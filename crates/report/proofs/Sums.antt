-- The sums of a role's counts over the outcomes from a number on: with one more behind them, and how large they are. Assumes nothing.
use mathlib.Core.Path.{◌≡◌, refl, sym, ap, ◌∙◌}
use mathlib.Core.Bool.{Bool, true, false, cond}
use mathlib.Core.List.{List}
use Prim.Native.Nat.{ℕ, zero, suc, ◌+◌, ◌*◌, ◌≤◌, ◌<◌}
use native.Mathlib.Omega.{arith}
use lib.Dec.{eqb}
use Rattle.roles.specs.Roles.{role_number}
use Rattle.roles.specs.declared.Role.{Role}
use Rattle.role_counts.specs.RoleCounts.{none_counted, counts_of, plus, counts_under, sum_for, AtMost}
use Rattle.role_counts.specs.declared.RoleCounts.{RoleCounts}
use Rattle.role_counts.proofs.Sums.{plus_none, under_it, under_another, sum_more, none_few, fewer, plus_few, under_few}
use Rattle.passes.specs.declared.PassStats.{PassStats}
use Rattle.report_line.specs.Written.{largest_held}
use Rattle.report_words.specs.Outcomes.{word_at, role_at, stats_at, outcome_at, outcomes_from, outcomes_in}
use Rattle.report_words.specs.Asked.{grow_at, fill_at, local_at, Tame, SumsFit}
use Rattle.report_words.proofs.Putting.{last_outcome}

-- ---- the walk over the outcomes

-- so far: the sums over the first k outcomes, none of them above k times what a word holds
pub record Summing (role : Role) (words : List ℕ) (k : ℕ) (sum : RoleCounts) : Type 0 where
  pub is : sum ≡ sum_for role (outcomes_in k words)
  pub few : AtMost (k * 4294967295) sum

-- what starts it
pub none_is : (c : RoleCounts) → c.attached ≡ 0 → c.no_candidate ≡ 0 → c.ambiguous ≡ 0 → c.edge ≡ 0 → c ≡ none_counted
none_is c p q r s = λ t. record { attached = p t; no_candidate = q t; ambiguous = r t; edge = s t }

pub summing_start : (role : Role) (words : List ℕ) → Summing role words 0 none_counted
unfolding sum_for outcomes_from
summing_start role words = record { is = refl; few = none_few _ }

module _ (role : Role) (words : List ℕ) (k : ℕ) (sum : RoleCounts) (s : Summing role words k sum) where
  one_more : sum_for role (outcomes_in (suc k) words) ≡ plus sum (counts_under role (outcome_at words k))
  one_more = ap (sum_for role) (last_outcome words 0 k k (omega arith)) ∙ sum_more role (outcomes_in k words) (outcome_at words k) ∙ ap (λ (c : RoleCounts). plus c (counts_under role (outcome_at words k))) (sym s.is)

  -- a pass of the role
  pub summing_on : role_number (role_at words k) ≡ role_number role → (more : RoleCounts) → more ≡ counts_of (stats_at words k) → SumsFit more
      → Summing role words (k + 1) (plus sum more)
  summing_on e more m f =
      let d : k + 1 ≡ suc k = omega arith in
      let n : k * 4294967295 + 4294967295 ≡ suc k * 4294967295 = omega arith in
      rw d (record { is = ap (plus sum) (m ∙ sym (under_it role (outcome_at words k) e)) ∙ sym one_more; few = rw (← n) (plus_few _ _ sum more s.few f) })

  -- one of another
  pub summing_past : (role_number (role_at words k) ≡ role_number role → ⊥) → Summing role words (k + 1) sum
  summing_past f =
      let d : k + 1 ≡ suc k = omega arith in
      rw d (record { is = sym (one_more ∙ ap (plus sum) (under_another role (outcome_at words k) f) ∙ plus_none sum); few = fewer _ _ (omega arith) sum s.few })

-- ---- how large they are

-- what an outcome that passes the check adds
tame_counts : (words : List ℕ) (k : ℕ) → Tame words k → AtMost 1048576 (counts_of (stats_at words k))
unfolding stats_at counts_of
tame_counts words k t = go (eqb (word_at words k 0) 0) (eqb (word_at words k 0) 1)
  where
    go : (a b : Bool) → AtMost 1048576 (counts_of (cond a (PassStats.Grow (grow_at words k)) (cond b (PassStats.Fill (fill_at words k)) (PassStats.Local (local_at words k)))))
    go true b = record { attached = t.attached; no_candidate = t.no_candidate; ambiguous = t.ambiguous; edge = t.edge }
    go false true = record { attached = t.attached; no_candidate = omega arith; ambiguous = omega arith; edge = omega arith }
    go false false = record { attached = t.attached; no_candidate = t.no_candidate; ambiguous = t.ambiguous; edge = t.edge }

all_tame_few : (role : Role) (words : List ℕ) (k n : ℕ) → ((j : ℕ) → k ≤ j → j < k + n → Tame words j) → AtMost (n * 1048576) (sum_for role (outcomes_from words k n))
unfolding sum_for outcomes_from
all_tame_few role words k zero t = none_few _
all_tame_few role words k (suc n) t =
    let e : 1048576 + n * 1048576 ≡ suc n * 1048576 = omega arith in
    rw (← e) (plus_few _ _ _ _ (under_few 1048576 role (outcome_at words k) (tame_counts words k (t k (omega arith) (omega arith))))
    (all_tame_few role words (suc k) n (λ j l h. t j (omega arith) (omega arith))))

-- sixteen outcomes that pass the check: a line holds their sums
pub sums_held : (role : Role) (passes : ℕ) (words : List ℕ) → passes ≤ 16 → ((j : ℕ) → j < passes → Tame words j) → AtMost largest_held (sum_for role (outcomes_in passes words))
sums_held role passes words h t = fewer _ _ (omega arith) _ (all_tame_few role words 0 passes (λ j l m. t j (omega arith)))
