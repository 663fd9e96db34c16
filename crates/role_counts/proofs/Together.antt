-- The three roles together: they count what all passes count, whoever ran them, each pass once. Assumes nothing.
use mathlib.Core.Path.{◌≡◌, refl, sym, ap, ap₂, ◌∙◌}
use mathlib.Core.List.{List, [], ◌∷◌, map}
use Prim.Native.Nat.{ℕ, ◌+◌}
use native.Mathlib.Omega.{arith}
use Rattle.roles.specs.declared.Role.{Role}
use Rattle.passes.specs.declared.PassStats.{PassStats}
use Rattle.role_counts.specs.RoleCounts.{RoledStats, none_counted, counts_of, plus, counts_under, sum_for, together}
use Rattle.role_counts.specs.declared.RoleCounts.{RoleCounts}
use Rattle.role_counts.proofs.Sums.{none_plus, plus_assoc}

-- the counts of all of some passes, and of those that ran
unfoldable pub all_said : List PassStats → RoleCounts
all_said [] = none_counted
all_said (s ∷ ss) = plus (counts_of s) (all_said ss)

abbrev pub all_of : List RoledStats → RoleCounts
all_of os = all_said (map (λ o. o.stats) os)

-- ---- a pass more

plus_swap : (a n b : RoleCounts) → plus a (plus n b) ≡ plus n (plus a b)
plus_swap a n b =
    λ t. record {
      attached = swap a.attached n.attached b.attached t;
      no_candidate = swap a.no_candidate n.no_candidate b.no_candidate t;
      ambiguous = swap a.ambiguous n.ambiguous b.ambiguous t;
      edge = swap a.edge n.edge b.edge t;
    }
  where
    swap : (a n b : ℕ) → a + (n + b) ≡ n + (a + b)
    swap a n b = omega arith

-- a pass that one role ran is counted once
module _ (n a b c : RoleCounts) where
  under_first : plus (plus n a) (plus (plus none_counted b) (plus none_counted c)) ≡ plus n (plus a (plus b c))
  under_first = ap₂ (λ (x y : RoleCounts). plus (plus n a) (plus x y)) (none_plus b) (none_plus c) ∙ plus_assoc n a (plus b c)

  under_second : plus (plus none_counted a) (plus (plus n b) (plus none_counted c)) ≡ plus n (plus a (plus b c))
  under_second =
      ap₂ (λ (x y : RoleCounts). plus x (plus (plus n b) y)) (none_plus a) (none_plus c) ∙ ap (plus a) (plus_assoc n b c) ∙ plus_swap a n (plus b c)

  under_third : plus (plus none_counted a) (plus (plus none_counted b) (plus n c)) ≡ plus n (plus a (plus b c))
  under_third =
      ap₂ (λ (x y : RoleCounts). plus x (plus y (plus n c))) (none_plus a) (none_plus b) ∙ ap (plus a) (plus_swap b n c) ∙ plus_swap a n (plus b c)

one_role : (r : Role) (s : PassStats) (a b c : RoleCounts)
    → (let o : RoledStats = record { role = r; stats = s } in
    plus (plus (counts_under Role.Plant o) a) (plus (plus (counts_under Role.Depot o) b) (plus (counts_under Role.Dealer o) c)))
    ≡ plus (counts_of s) (plus a (plus b c))
unfolding counts_under
one_role Role.Plant s a b c = under_first (counts_of s) a b c
one_role Role.Depot s a b c = under_second (counts_of s) a b c
one_role Role.Dealer s a b c = under_third (counts_of s) a b c

-- ---- all passes

pub together_all : (os : List RoledStats) → together os ≡ all_of os
unfolding sum_for all_said
together_all [] = refl
together_all (o ∷ os) =
    one_role o.role o.stats (sum_for Role.Plant os) (sum_for Role.Depot os) (sum_for Role.Dealer os) ∙ ap (plus (counts_of o.stats)) (together_all os)

-- so it is no matter who ran them
pub together_same : (os ps : List RoledStats) → map (λ o. o.stats) os ≡ map (λ o. o.stats) ps → together os ≡ together ps
together_same os ps e = together_all os ∙ ap all_said e ∙ sym (together_all ps)
