-- Sums of counts: with a pass more behind the others, and how large they are. Assumes nothing.
use mathlib.Core.Path.{◌≡◌, refl, sym, ap, ◌∙◌}
use mathlib.Core.Bool.{Bool, true, false, cond}
use mathlib.Core.List.{List, [], ◌∷◌, ◌++◌}
use Prim.Native.Nat.{ℕ, ◌+◌, ◌≤◌}
use native.Mathlib.Omega.{arith}
use borrow.Author.Tests.{eq-eqb, ne_eqb}
use lib.Dec.{eqb}
use Rattle.roles.specs.Roles.{role_number}
use Rattle.roles.specs.declared.Role.{Role}
use Rattle.role_counts.specs.RoleCounts.{RoledStats, none_counted, counts_of, plus, counts_under, sum_for, AtMost}
use Rattle.role_counts.specs.declared.RoleCounts.{RoleCounts}

-- ---- addition

four : {a b c d a' b' c' d' : ℕ} → a ≡ a' → b ≡ b' → c ≡ c' → d ≡ d'
    → ◌≡◌ {A = RoleCounts} (record { attached = a; no_candidate = b; ambiguous = c; edge = d }) (record { attached = a'; no_candidate = b'; ambiguous = c'; edge = d' })
four p q r s = rw (p, q, r, s) refl

pub plus_none : (a : RoleCounts) → plus a none_counted ≡ a
plus_none a = four (omega arith) (omega arith) (omega arith) (omega arith)

pub none_plus : (a : RoleCounts) → plus none_counted a ≡ a
none_plus a = four (omega arith) (omega arith) (omega arith) (omega arith)

pub plus_assoc : (a b c : RoleCounts) → plus (plus a b) c ≡ plus a (plus b c)
plus_assoc a b c = four (omega arith) (omega arith) (omega arith) (omega arith)

-- ---- a pass by its role

module _ (r : Role) (s : RoledStats) where
  pub under_it : role_number s.role ≡ role_number r → counts_under r s ≡ counts_of s.stats
  unfolding counts_under
  under_it e = rw (eq-eqb (role_number s.role) (role_number r) e)

  pub under_another : (role_number s.role ≡ role_number r → ⊥) → counts_under r s ≡ none_counted
  unfolding counts_under
  under_another f = rw (ne_eqb (role_number s.role) (role_number r) f)

-- ---- a pass more

pub sum_more : (r : Role) (ss : List RoledStats) (s : RoledStats) → sum_for r (ss ++ (s ∷ [])) ≡ plus (sum_for r ss) (counts_under r s)
unfolding sum_for
sum_more r [] s = plus_none (counts_under r s) ∙ sym (none_plus (counts_under r s))
sum_more r (t ∷ ss) s = ap (plus (counts_under r t)) (sum_more r ss s) ∙ sym (plus_assoc (counts_under r t) (sum_for r ss) (counts_under r s))

-- ---- how large they are

pub none_few : (n : ℕ) → AtMost n none_counted
none_few n = record { attached = omega arith; no_candidate = omega arith; ambiguous = omega arith; edge = omega arith }

pub fewer : (n m : ℕ) → n ≤ m → (c : RoleCounts) → AtMost n c → AtMost m c
fewer n m h c a = record { attached = omega (arith, h, a.attached); no_candidate = omega (arith, h, a.no_candidate); ambiguous = omega (arith, h, a.ambiguous); edge = omega (arith, h, a.edge) }

pub plus_few : (n m : ℕ) (a b : RoleCounts) → AtMost n a → AtMost m b → AtMost (n + m) (plus a b)
plus_few n m a b p q =
    record { attached = omega (arith, p.attached, q.attached); no_candidate = omega (arith, p.no_candidate, q.no_candidate); ambiguous = omega (arith, p.ambiguous, q.ambiguous); edge = omega (arith, p.edge, q.edge) }

pub under_few : (n : ℕ) (r : Role) (s : RoledStats) → AtMost n (counts_of s.stats) → AtMost n (counts_under r s)
unfolding counts_under
under_few n r s a = go (eqb (role_number s.role) (role_number r))
  where
    go : (t : Bool) → AtMost n (cond t (counts_of s.stats) none_counted)
    go true = a
    go false = none_few n
