-- Counts for each role (document 02, 7/14): "Keep attached, no-candidate, ambiguous and edge counts for each of the three roles too, each the sum
-- over the passes run under it; fill adds to attached alone." Definitions only.
use Rattle.std.specs.Prelude.{cond, List, [], ◌∷◌, ℕ, ◌+◌, ◌≤◌, eqb}
use Rattle.roles.specs.Roles.{role_number}
use Rattle.roles.specs.declared.Role.{Role}
use Rattle.passes.specs.declared.Counts.{Counts}
use Rattle.passes.specs.declared.PassStats.{PassStats}
use Rattle.role_counts.specs.declared.RoleCounts.{RoleCounts}

-- a pass that has run: who ran it, and what it answers
pub record RoledStats : Type 0 where
  pub role : Role
  pub stats : PassStats

-- ---- the counts of a pass

abbrev pub none_counted : RoleCounts
none_counted = record { attached = 0; no_candidate = 0; ambiguous = 0; edge = 0 }

-- grow's and local's four
abbrev pub four_of : Counts → RoleCounts
four_of c = record { attached = c.attached; no_candidate = c.rejected_no_candidate; ambiguous = c.rejected_ambiguous; edge = c.rejected_edge }

-- "fill adds to attached alone"
abbrev pub attached_alone : ℕ → RoleCounts
attached_alone n = record { attached = n; no_candidate = 0; ambiguous = 0; edge = 0 }

unfoldable pub counts_of : PassStats → RoleCounts
counts_of (PassStats.Grow s) = four_of s.counts
counts_of (PassStats.Fill s) = attached_alone s.added
counts_of (PassStats.Local s) = four_of s.counts

-- ---- "each the sum over the passes run under it"

abbrev pub plus : RoleCounts → RoleCounts → RoleCounts
plus a b =
    record { attached = a.attached + b.attached; no_candidate = a.no_candidate + b.no_candidate; ambiguous = a.ambiguous + b.ambiguous; edge = a.edge + b.edge }

-- of a pass that another role ran nothing is counted
unfoldable pub counts_under : Role → RoledStats → RoleCounts
counts_under r s = cond (eqb (role_number s.role) (role_number r)) (counts_of s.stats) none_counted

unfoldable pub sum_for : Role → List RoledStats → RoleCounts
sum_for r [] = none_counted
sum_for r (s ∷ ss) = plus (counts_under r s) (sum_for r ss)

-- the three together
abbrev pub together : List RoledStats → RoleCounts
together os = plus (sum_for Role.Plant os) (plus (sum_for Role.Depot os) (sum_for Role.Dealer os))

-- ---- bounds

-- no count is above n
pub record AtMost (n : ℕ) (c : RoleCounts) : Type 0 where
  pub attached : c.attached ≤ n
  pub no_candidate : c.no_candidate ≤ n
  pub ambiguous : c.ambiguous ≤ n
  pub edge : c.edge ≤ n

-- counts that 128 bits hold with as many more: none is above 2^127
abbrev pub Summable : RoleCounts → Type 0
Summable c = AtMost 170141183460469231731687303715884105727 c
