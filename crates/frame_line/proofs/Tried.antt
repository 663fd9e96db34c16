-- The numbers below a number in a run of calls over them, as the rows are tried. Assumes nothing.
use mathlib.Core.Path.{◌≡◌, ap, subst}
use mathlib.Core.Bool.{true}
use Prim.Native.Nat.{ℕ, ◌+◌, ◌<◌, ◌≤◌}
use native.Mathlib.Omega.{arith}
use Rattle.std.specs.Prelude.{Option, Some, None}
use Rattle.std.specs.Option.{option_map, IsSomeAnd}
use Rattle.std.specs.declared.ops.Range.{Range}
use Rattle.std.specs.Iterator.Runs.{Run, ItemsCountUp, AllItems, AllItemsBelow}
use Rattle.std.proofs.iter.Yields.{nat_range_steps}
use Rattle.std.proofs.iter.runs.Sources.{range_runs}

module _ (p : Run nat_range_steps) (n : ℕ) (from : p.from ≡ record { start = 0; end = n }) where
  up : ItemsCountUp p 0 n
  up = subst (λ (s : Range ℕ). ItemsCountUp p s.start s.end) from (range_runs p p.seen)

  came : (j : ℕ) → j < p.len → p.at j ≡ Some j
  came j h = go (p.at j) (up.3 j h)
    where
      go : (r : Option ℕ) → option_map (λ y. y) r ≡ Some (0 + j) → r ≡ Some j
      go None e = absurd (let z : ◌≡◌ {A = ℕ} 0 1 = cc in omega arith)
      go (Some y) e = let d : y ≡ 0 + j = cc in ap Some (omega arith)

  pub each_came : (P : ℕ → Type 0) → p.whole ≡ true → AllItems p P → (j : ℕ) → j < n → P j
  each_came P w h j l = rw (came j (omega (arith, up.1 w))) at (h j)

  pub one_came : (P : ℕ → Type 0) (j : ℕ) → j < p.len → IsSomeAnd (p.at j) P → P j
  one_came P j l h = rw (came j l) at h

  pub before_came : (P : ℕ → Type 0) (i : ℕ) → i ≤ p.len → AllItemsBelow p i P → (j : ℕ) → j < i → P j
  before_came P i l h j k = rw (came j (omega arith)) at (h j k)

  pub few_came : p.len ≤ n
  few_came = omega (arith, up.0)
