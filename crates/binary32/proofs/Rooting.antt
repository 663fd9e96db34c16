-- `rooted` is what `Answers` says, and what it says is due. Assumes nothing.
use Prim.Native.Nat.{ℕ, zero, suc, ◌+◌, ◌-◌, ◌*◌, ◌^◌, ◌≤◌, ◌<◌}
use mathlib.Core.Path.{◌≡◌, refl, sym, ap, subst, ◌∙◌}
use mathlib.Core.Bool.{true, false, cond}
use native.Mathlib.Nat.{lt_of_lt_of_le, lt_of_le_of_lt, add-le-add, mul-le-mul, pow-suc}
use native.Mathlib.Decide.{dec_le}
use native.Mathlib.Omega.{arith}
use borrow.Author.Tests.{lt-ltb, le-ltb}
use native.Mathlib.Nat.{le_of_lt}
use lib.Ieee.{Float, nan, inf, fin, binary32, of_bits, to_bits, is_nan}
use Rattle.std.proofs.Common.{Result, Ok, Err}
use Rattle.refusal.specs.declared.Refusal.{Refusal}
use Rattle.refusal.specs.declared.Refusal.TheVariants.{OutOfRange}
use Rattle.binary32.specs.Sqrt.{square, units_of, RootOf, Answers, reaches, climb, rooted}
use Rattle.binary32.specs.Said.{root_said, takes_root, root_due}
use Rattle.binary32.proofs.Answered.{at_nan}
use Rattle.binary32.proofs.Unique.{mono}

-- the midpoints go up with the patterns
midpoints : (r s : ℕ) → r ≤ s → square (units_of (r - 1) + units_of r) ≤ square (units_of (s - 1) + units_of s)
midpoints r s h = mul-le-mul between between
  where
    between : units_of (r - 1) + units_of r ≤ units_of (s - 1) + units_of s
    between = add-le-add (mono (r - 1) (s - 1) (omega arith)) (mono r s h)

module _ (b r : ℕ) (k : RootOf b r) where
  low_reaches : (t : ℕ) → t ≤ r → reaches b t ≡ true
  unfolding reaches
  low_reaches t h = lt-ltb (square (units_of (t - 1) + units_of t)) (4 * (units_of b * 2 ^ 149)) (lt_of_le_of_lt (midpoints t r h) k.above)

  high_fails : (t : ℕ) → r < t → reaches b t ≡ false
  unfolding reaches
  high_fails t h =
      le-ltb (square (units_of (t - 1) + units_of t)) (4 * (units_of b * 2 ^ 149))
      (le_of_lt (lt_of_lt_of_le k.under
      (subst (λ (n : ℕ). square (units_of n + units_of (r + 1)) ≤ square (units_of (t - 1) + units_of t)) same (midpoints (r + 1) t (omega arith)))))
    where
      same : r + 1 - 1 ≡ r
      same = omega arith

  pub climbs : (j s : ℕ) → s ≤ r → r < s + 2 ^ j → climb b j s ≡ r
  unfolding climb
  climbs zero s l h = omega arith
  climbs (suc j) s l h = go (climbs j) (dec_le (s + 2 ^ j) r)
    where
      go : ((t : ℕ) → t ≤ r → r < t + 2 ^ j → climb b j t ≡ r) → Dec (s + 2 ^ j ≤ r) → climb b j (cond (reaches b (s + 2 ^ j)) (s + 2 ^ j) s) ≡ r
      go on (yes m) = rw (low_reaches (s + 2 ^ j) m) (on (s + 2 ^ j) m (omega (arith, pow-suc 2 j)))
      go on (no m) = rw (high_fails (s + 2 ^ j) (omega arith)) (on s l (omega arith))

pub agrees : (x : Float) (a : Result Float Refusal) → Answers x a → a ≡ rooted x
unfolding Answers rooted
agrees nan a h = h
agrees (inf s) a h = h
agrees (fin s zero e) a h = h
agrees (fin true (suc m) e) a h = h
agrees (fin false (suc m) e) a h =
    h.1 ∙ ap (λ (r : ℕ). Ok (of_bits binary32 r)) (sym (climbs (to_bits binary32 (fin false (suc m) e)) h.0 h.2 31 0 (omega arith) (below h.0 h.2.finite)))
  where
    below : (r : ℕ) → r < 0x7f80_0000 → r < 0 + 2 ^ 31
    below r h = omega arith

root_said_lem : (x : Float) → root_said (rooted x) ≡ root_due x
unfolding root_said rooted takes_root root_due
root_said_lem nan = refl
root_said_lem (inf s) = refl
root_said_lem (fin s zero e) = refl
root_said_lem (fin true (suc m) e) = refl
root_said_lem (fin false (suc m) e) = refl

-- at a NaN
pub nan_rooted : (x : Float) → is_nan x ≡ true → ◌≡◌ {A = Result Float Refusal} (Err OutOfRange) (rooted x)
nan_rooted x t = agrees x (Err OutOfRange) (at_nan x t)

pub nan_said : (x : Float) → is_nan x ≡ true → root_said (Err OutOfRange) ≡ root_due x
nan_said x t = ap root_said (nan_rooted x t) ∙ root_said_lem x

-- all promises of `sqrt` at once
pub promised : (x : Float) (a : Result Float Refusal) → Answers x a → Answers x a × ((a ≡ rooted x) × (root_said a ≡ root_due x))
promised x a h = (h, (agrees x a h, ap root_said (agrees x a h) ∙ root_said_lem x))
