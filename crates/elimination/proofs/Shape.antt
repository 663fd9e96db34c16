-- Eight rows of nine: a column's elimination keeps them, and a row of answers has eight. Assumes nothing.
use mathlib.Core.Path.{◌≡◌, ◌∙◌, ap}
use mathlib.Core.Bool.{Bool, true, false, cond}
use mathlib.Core.List.{[]}
use Prim.Native.Nat.{ℕ, zero, suc, ◌<◌}
use lib.Dec.{eqb, ltb}
use lib.ListN.{length}
use Rattle.elimination.specs.Solve.{Row, Matrix, row, swapped, multiplier, gained, cleared, right_sides, carried, answered}
use Rattle.elimination.specs.Shape.{EightByNine}
use Rattle.elimination.proofs.Tables.{length_table, get_d_table}

-- ---- the steps keep them

pub swapped_shape : (m : Matrix) (a b : ℕ) → EightByNine m → a < 8 → b < 8 → EightByNine (swapped m a b)
unfolding swapped
swapped_shape m a b e ha hb = record { rows = length_table 8 f; columns = λ i h. ap length (get_d_table 8 f i [] h) ∙ e.columns (place i) (within i h) }
  where
    place : ℕ → ℕ
    place i = cond (eqb i a) b (cond (eqb i b) a i)

    f : ℕ → Row
    f i = row m (cond (eqb i a) b (cond (eqb i b) a i))

    pick : (s t : Bool) (i : ℕ) → i < 8 → cond s b (cond t a i) < 8
    pick true t i h = hb
    pick false true i h = ha
    pick false false i h = h

    within : (i : ℕ) → i < 8 → place i < 8
    within i h = pick (eqb i a) (eqb i b) i h

pub cleared_shape : (m : Matrix) (k : ℕ) → EightByNine m → EightByNine (cleared m k)
unfolding cleared gained
cleared_shape m k e = record { rows = length_table 8 f; columns = λ i h. ap length (get_d_table 8 f i [] h) ∙ pick (ltb k i) i h }
  where
    f : ℕ → Row
    f i = cond (ltb k i) (gained (row m i) (row m k) (multiplier m k i) k) (row m i)

    pick : (t : Bool) (i : ℕ) → i < 8 → length (cond t (gained (row m i) (row m k) (multiplier m k i) k) (row m i)) ≡ 9
    pick true i h = length_table 9 _
    pick false i h = e.columns i h

-- ---- a row of answers has eight

pub answered_long : (n : ℕ) (m : Matrix) → length (answered n m) ≡ 8
unfolding answered right_sides carried
answered_long zero m = length_table 8 _
answered_long (suc n) m = length_table 8 _
