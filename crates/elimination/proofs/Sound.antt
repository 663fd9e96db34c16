-- What is tested at the end stands for every step: a non-finite value of a step leaves one in the matrix or among the answers, and a
-- pivot stays on the diagonal. Assumes nothing.
use mathlib.Core.Path.{◌≡◌, refl, sym, ap, ap₂, subst, ◌∙◌}
use mathlib.Core.Bool.{Bool, true, false, cond, ◌&&◌, not}
use mathlib.Core.List.{[], ◌∷◌, ◌++◌}
use Prim.Native.Nat.{ℕ, zero, suc, ◌+◌, ◌-◌, ◌<◌, ◌≤◌}
use native.Mathlib.Decide.{ℕ_discrete}
use native.Mathlib.Omega.{arith}
use borrow.Author.Tests.{eq-eqb, ne_eqb, lt-ltb, le-ltb, ltb-true}
use lib.Dec.{eqb, ltb}
use lib.ListN.{get_or}
use lib.Ieee.{Float, nan, binary32, neg, lt, eq}
use Rattle.std.specs.Bool.{then_some}
use Rattle.std.specs.Result.{result_ok}
use Rattle.binary32.specs.Ranges.{is_finite, all_finite}
use Rattle.binary32.specs.Numbers.{nought}
use Rattle.elimination.specs.Rounded.{◌⊗◌, magnitude}
use Rattle.elimination.specs.Tables.{table, concatenated, every}
use Rattle.elimination.specs.Solve.{Row, Matrix, row, entry, values, largest, swapped, pivoted, reciprocal, multiplier, gain, gained, cleared, eliminated, pivot_of, no_zero_pivot, gain_steps, lower_steps, column_steps, elimination_steps, right_sides, answer, carry, carried, answered, carry_steps, answer_steps, solve_steps, answers_of, sound_of, solved, nonzero_diagonal, finite_matrix, finite_answers}
use Rattle.elimination.proofs.Tables.{get_d_table, both, same, every_true, every_at, every_same}
use Rattle.elimination.proofs.Finite.{add_finite, mul_finite, div_finite, one_finite, none_finite, parts_finite, append_finite, gathered_finite, gathered_at, gathered_true, where_true, table_finite}
use Rattle.std.specs.Prelude.{Ok, Err, Some, None}
use Rattle.elimination.proofs.Rows.{eliminated_suc, answered_suc}

-- ---- a matrix of finite values

abbrev pub FiniteMatrix : Matrix → Type 0
FiniteMatrix m = (i j : ℕ) → i < 8 → j < 9 → is_finite (entry m i j) ≡ true

pub matrix_at : (m : Matrix) → finite_matrix m ≡ true → FiniteMatrix m
matrix_at m e i j h l = every_at 9 (λ j. is_finite (entry m i j)) (every_at 8 (λ i. every 9 (λ j. is_finite (entry m i j))) e i h) j l

pub matrix_true : (m : Matrix) → FiniteMatrix m → finite_matrix m ≡ true
matrix_true m f = every_true 8 (λ i. every 9 (λ j. is_finite (entry m i j))) (λ i h. every_true 9 (λ j. is_finite (entry m i j)) (λ j l. f i j h l))

pub values_finite : (m : Matrix) → all_finite (values m) ≡ finite_matrix m
values_finite m = gathered_finite 8 (λ i. table 9 (entry m i)) ∙ every_same 8 (λ i. all_finite (table 9 (entry m i))) (λ i. every 9 (λ j. is_finite (entry m i j))) (λ i h. table_finite 9 (entry m i))

-- ---- rows that change places

pub largest_range : (m : Matrix) (k n : ℕ) → (k ≤ largest m k n) × (largest m k n ≤ k + n)
unfolding largest
largest_range m k zero = (omega arith, omega arith)
largest_range m k (suc n) = go (lt (magnitude (entry m (largest m k n) k)) (magnitude (entry m (k + suc n) k))) (largest m k n) (largest_range m k n)
  where
    go : (t : Bool) (b : ℕ) → (k ≤ b) × (b ≤ k + n) → (k ≤ cond t (k + suc n) b) × (cond t (k + suc n) b ≤ k + suc n)
    go true b h = (omega arith, omega arith)
    go false b h = (h.0, omega arith)

module _ (m : Matrix) (a b : ℕ) (ha : a < 8) (hb : b < 8) where
  swapped_row : (i : ℕ) → i < 8 → row (swapped m a b) i ≡ row m (cond (eqb i a) b (cond (eqb i b) a i))
  unfolding swapped
  swapped_row i h = get_d_table 8 (λ i. row m (cond (eqb i a) b (cond (eqb i b) a i))) i [] h

  swapped_other : (i : ℕ) → i < 8 → (i ≡ a → ⊥) → (i ≡ b → ⊥) → row (swapped m a b) i ≡ row m i
  swapped_other i h p q = swapped_row i h ∙ rw (ne_eqb i a p, ne_eqb i b q)

  swapped_first : row (swapped m a b) a ≡ row m b
  swapped_first = swapped_row a ha ∙ rw (eq-eqb a a refl)

  swapped_second : row (swapped m a b) b ≡ row m a
  swapped_second = go (ℕ_discrete b a)
    where
      go : Dec (b ≡ a) → row (swapped m a b) b ≡ row m a
      go (yes q) = ap (row (swapped m a b)) q ∙ swapped_first ∙ ap (row m) q
      go (no q) = swapped_row b hb ∙ rw (ne_eqb b a q, eq-eqb b b refl)

  swap_finite : FiniteMatrix m → FiniteMatrix (swapped m a b)
  swap_finite f i j h l = go (ℕ_discrete i a) (ℕ_discrete i b)
    where
      from : (c : ℕ) → c < 8 → row (swapped m a b) i ≡ row m c → is_finite (entry (swapped m a b) i j) ≡ true
      from c k e = ap (λ (r : Row). is_finite (get_or r j nan)) e ∙ f c j k l

      go : Dec (i ≡ a) → Dec (i ≡ b) → is_finite (entry (swapped m a b) i j) ≡ true
      go (yes p) q = from b hb (ap (row (swapped m a b)) p ∙ swapped_first)
      go (no p) (yes q) = from a ha (ap (row (swapped m a b)) q ∙ swapped_second)
      go (no p) (no q) = from i h (swapped_other i h p q)

  unswap_finite : FiniteMatrix (swapped m a b) → FiniteMatrix m
  unswap_finite f i j h l = go (ℕ_discrete i a) (ℕ_discrete i b)
    where
      from : (c : ℕ) → c < 8 → row (swapped m a b) c ≡ row m i → is_finite (entry m i j) ≡ true
      from c k e = ap (λ (r : Row). is_finite (get_or r j nan)) (sym e) ∙ f c j k l

      go : Dec (i ≡ a) → Dec (i ≡ b) → is_finite (entry m i j) ≡ true
      go (yes p) q = from b hb (swapped_second ∙ ap (row m) (sym p))
      go (no p) (yes q) = from a ha (swapped_first ∙ ap (row m) (sym q))
      go (no p) (no q) = from i h (swapped_other i h p q)

-- ---- column k

module _ (m : Matrix) (k : ℕ) where
  cleared_row : (i : ℕ) → i < 8 → row (cleared m k) i ≡ cond (ltb k i) (gained (row m i) (row m k) (multiplier m k i) k) (row m i)
  unfolding cleared
  cleared_row i h = get_d_table 8 (λ i. cond (ltb k i) (gained (row m i) (row m k) (multiplier m k i) k) (row m i)) i [] h

  cleared_upper : (i : ℕ) → i < 8 → i ≤ k → row (cleared m k) i ≡ row m i
  cleared_upper i h l = cleared_row i h ∙ rw (le-ltb k i l)

  -- an entry, by whether it lies below the pivot's row and right of its column
  abbrev entry_at : Bool → Bool → ℕ → ℕ → Float
  entry_at below right i j = cond below (cond right (gain (entry m i j) (multiplier m k i) (entry m k j)) (entry m i j)) (entry m i j)

  cleared_entry : (i j : ℕ) → i < 8 → j < 9 → entry (cleared m k) i j ≡ entry_at (ltb k i) (ltb k j) i j
  unfolding gained
  cleared_entry i j h l = ap (λ (r : Row). get_or r j nan) (cleared_row i h) ∙ go (ltb k i)
    where
      go : (t : Bool) → get_or (cond t (gained (row m i) (row m k) (multiplier m k i) k) (row m i)) j nan ≡ entry_at t (ltb k j) i j
      go true = get_d_table 9 (λ j. cond (ltb k j) (gain (entry m i j) (multiplier m k i) (entry m k j)) (entry m i j)) j nan l
      go false = refl

  -- where the entries afterwards are finite, so are those before, and every step
  module _ (h : k < 8) (f : FiniteMatrix (cleared m k)) where
    before : FiniteMatrix m
    before i j a b = go (ltb k i) (ltb k j) (sym (ap is_finite (cleared_entry i j a b)) ∙ f i j a b)
      where
        go : (s t : Bool) → is_finite (entry_at s t i j) ≡ true → is_finite (entry m i j) ≡ true
        go true true e = (add_finite binary32 (entry m i j) (multiplier m k i ⊗ neg (entry m k j)) e).0
        go true false e = e
        go false t e = e

    gain_finite : (i j : ℕ) → k < i → i < 8 → k < j → j < 9 → is_finite (gain (entry m i j) (multiplier m k i) (entry m k j)) ≡ true
    gain_finite i j a b c d = ap₂ (λ (s t : Bool). is_finite (entry_at s t i j)) (sym (lt-ltb k i a)) (sym (lt-ltb k j c)) ∙ sym (ap is_finite (cleared_entry i j b d)) ∙ f i j b d

    product_finite : (i j : ℕ) → k < i → i < 8 → k < j → j < 9 → is_finite (multiplier m k i ⊗ neg (entry m k j)) ≡ true
    product_finite i j a b c d = (add_finite binary32 (entry m i j) (multiplier m k i ⊗ neg (entry m k j)) (gain_finite i j a b c d)).1

    multiplier_finite : (i : ℕ) → k < i → i < 8 → is_finite (multiplier m k i) ≡ true
    multiplier_finite i a b = (mul_finite binary32 (multiplier m k i) (neg (entry m k 8)) (product_finite i 8 a b h (omega arith))).0

    lower_finite : (i : ℕ) → k < i → i < 8 → all_finite (lower_steps m k i) ≡ true
    lower_finite i a b =
        let w = multiplier_finite i a b in
        one_finite (reciprocal m k) _ (mul_finite binary32 (entry m i k) (reciprocal m k) w).1
        (one_finite (multiplier m k i) _ w
        (gathered_true 9 (λ j. cond (ltb k j) (gain_steps m k i j) []) (λ j d.
        where_true (ltb k j) (gain_steps m k i j) (λ t. let c = ltb-true k j t in
        one_finite _ _ (product_finite i j a b c d) (one_finite _ _ (gain_finite i j a b c d) none_finite)))))

    steps : all_finite (column_steps m k) ≡ true
    unfolding column_steps
    steps = gathered_true 8 (λ i. cond (ltb k i) (lower_steps m k i) []) (λ i b. where_true (ltb k i) (lower_steps m k i) (λ t. lower_finite i (ltb-true k i t) b))

  -- where the entries before and every step are finite, so are the entries afterwards
  after : FiniteMatrix m → all_finite (column_steps m k) ≡ true → FiniteMatrix (cleared m k)
  unfolding column_steps
  after f e i j a b = ap is_finite (cleared_entry i j a b) ∙ go (ltb k i) (ltb k j) refl refl
    where
      go : (s t : Bool) → ltb k i ≡ s → ltb k j ≡ t → is_finite (entry_at s t i j) ≡ true
      go true true p q =
          let lower = rw p at (gathered_at 8 (λ i. cond (ltb k i) (lower_steps m k i) []) e i a) in
          let gains = (parts_finite (multiplier m k i) _ (parts_finite (reciprocal m k) _ lower).1).1 in
          let here = rw q at (gathered_at 9 (λ j. cond (ltb k j) (gain_steps m k i j) []) gains j b) in
          (parts_finite _ _ (parts_finite _ _ here).1).0
      go true false p q = f i j a b
      go false t p q = f i j a b

-- ---- the columns

pub pivot_below : (m : Matrix) (k : ℕ) → k < 8 → largest m k (7 - k) < 8
pivot_below m k h = omega (arith, (largest_range m k (7 - k)).1)

steps_suc : (n : ℕ) (a : Matrix) → all_finite (elimination_steps (suc n) a) ≡ (all_finite (elimination_steps n a) && all_finite (column_steps (pivoted (eliminated n a) n) n))
unfolding elimination_steps concatenated
steps_suc n a = append_finite (concatenated n (λ k. column_steps (pivoted (eliminated k a) k) k)) (column_steps (pivoted (eliminated n a) n) n)

steps_none : (a : Matrix) → all_finite (elimination_steps 0 a) ≡ true
unfolding elimination_steps concatenated
steps_none a = none_finite

pub columns_before : (n : ℕ) (a : Matrix) → n ≤ 8 → FiniteMatrix (eliminated n a) → FiniteMatrix a × (all_finite (elimination_steps n a) ≡ true)
columns_before zero a h f = (unfold eliminated in f, steps_none a)
columns_before (suc n) a h f =
    let l : n < 8 = omega arith in
    let p = pivoted (eliminated n a) n in
    let g : FiniteMatrix (cleared p n) = unfold eliminated in f in
    let w = columns_before n a (omega arith) (unswap_finite (eliminated n a) n (largest (eliminated n a) n (7 - n)) l (pivot_below (eliminated n a) n l) (before p n l g)) in
    (w.0, steps_suc n a ∙ ap₂ (λ (s t : Bool). s && t) w.1 (steps p n l g))

pub columns_after : (n : ℕ) (a : Matrix) → n ≤ 8 → FiniteMatrix a → all_finite (elimination_steps n a) ≡ true → FiniteMatrix (eliminated n a)
columns_after zero a h f e = unfold eliminated in f
columns_after (suc n) a h f e =
    let l : n < 8 = omega arith in
    let p = pivoted (eliminated n a) n in
    let w = both (all_finite (elimination_steps n a)) (all_finite (column_steps p n)) (sym (steps_suc n a) ∙ e) in
    subst FiniteMatrix (sym (eliminated_suc n a)) (after p n (swap_finite (eliminated n a) n (largest (eliminated n a) n (7 - n)) l (pivot_below (eliminated n a) n l) (columns_after n a (omega arith) f w.0)) w.1)

-- the pivot of column k stays on the diagonal
pub pivot_kept : (n : ℕ) (a : Matrix) (k : ℕ) → k < n → n ≤ 8 → row (eliminated n a) k ≡ row (pivoted (eliminated k a) k) k
pivot_kept zero a k h l = absurd (omega arith)
pivot_kept (suc n) a k h l = ap (λ (m : Matrix). row m k) (eliminated_suc n a) ∙ cleared_upper (pivoted (eliminated n a) n) n k (omega arith) (omega arith) ∙ go (λ j. pivot_kept n a k j (omega arith)) (ℕ_discrete k n)
  where
    go : (k < n → row (eliminated n a) k ≡ row (pivoted (eliminated k a) k) k) → Dec (k ≡ n) → row (pivoted (eliminated n a) n) k ≡ row (pivoted (eliminated k a) k) k
    go on (yes q) = ap (λ (n : ℕ). row (pivoted (eliminated n a) n) k) (sym q)
    go on (no q) =
        let b = largest (eliminated n a) n (7 - n) in
        let r = largest_range (eliminated n a) n (7 - n) in
        swapped_other (eliminated n a) n b (omega arith) (omega arith) k (omega arith) q (λ e. omega arith) ∙ on (omega arith)

-- ---- the answers

abbrev pub FiniteRow : Row → Type 0
FiniteRow b = (i : ℕ) → i < 8 → is_finite (get_or b i nan) ≡ true

module _ (m : Matrix) (b : Row) (k : ℕ) where
  abbrev side_at : Bool → Bool → ℕ → Float
  side_at own above i = cond own (answer m b k) (cond above (carry (get_or b i nan) (answer m b k) (entry m i k)) (get_or b i nan))

  carried_at_lem : (i : ℕ) → i < 8 → get_or (carried m b k) i nan ≡ side_at (eqb i k) (ltb i k) i
  unfolding carried
  carried_at_lem i h = get_d_table 8 (λ i. side_at (eqb i k) (ltb i k) i) i nan h

  module _ (h : k < 8) (f : FiniteRow (carried m b k)) where
    answer_finite : is_finite (answer m b k) ≡ true
    answer_finite = ap (λ (t : Bool). is_finite (side_at t (ltb k k) k)) (sym (eq-eqb k k refl)) ∙ sym (ap is_finite (carried_at_lem k h)) ∙ f k h

    carry_finite : (i : ℕ) → i < k → is_finite (carry (get_or b i nan) (answer m b k) (entry m i k)) ≡ true
    carry_finite i l =
        ap₂ (λ (s t : Bool). is_finite (side_at s t i)) (sym (ne_eqb i k (λ q. omega arith))) (sym (lt-ltb i k l))
        ∙ sym (ap is_finite (carried_at_lem i (omega arith))) ∙ f i (omega arith)

    sides_before : FiniteRow b
    sides_before i a = go (ℕ_discrete i k) (ltb i k) refl
      where
        go : Dec (i ≡ k) → (t : Bool) → ltb i k ≡ t → is_finite (get_or b i nan) ≡ true
        go (yes q) t e = ap (λ (j : ℕ). is_finite (get_or b j nan)) q ∙ div_finite binary32 (get_or b k nan) (entry m k k) answer_finite
        go (no q) true e = (add_finite binary32 (get_or b i nan) (neg (answer m b k) ⊗ entry m i k) (carry_finite i (ltb-true i k e))).0
        go (no q) false e = ap₂ (λ (s t : Bool). is_finite (side_at s t i)) (sym (ne_eqb i k q)) (sym e) ∙ sym (ap is_finite (carried_at_lem i a)) ∙ f i a

    sides_steps : all_finite (carry_steps m b k) ≡ true
    unfolding carry_steps
    sides_steps =
        one_finite (answer m b k) _ answer_finite
        (gathered_true k (λ i. neg (answer m b k) ⊗ entry m i k ∷ carry (get_or b i nan) (answer m b k) (entry m i k) ∷ []) (λ i l.
        one_finite _ _ (add_finite binary32 (get_or b i nan) (neg (answer m b k) ⊗ entry m i k) (carry_finite i l)).1
        (one_finite _ _ (carry_finite i l) none_finite)))

  sides_after : FiniteRow b → all_finite (carry_steps m b k) ≡ true → FiniteRow (carried m b k)
  unfolding carry_steps
  sides_after f e i a = ap is_finite (carried_at_lem i a) ∙ go (eqb i k) (ltb i k) refl
    where
      w : (is_finite (answer m b k) ≡ true) × (all_finite (concatenated k (λ i. neg (answer m b k) ⊗ entry m i k ∷ carry (get_or b i nan) (answer m b k) (entry m i k) ∷ [])) ≡ true)
      w = parts_finite (answer m b k) _ e

      go : (s t : Bool) → ltb i k ≡ t → is_finite (side_at s t i) ≡ true
      go true t q = w.0
      go false true q = (parts_finite _ _ (parts_finite _ _ (gathered_at k (λ i. neg (answer m b k) ⊗ entry m i k ∷ carry (get_or b i nan) (answer m b k) (entry m i k) ∷ []) w.1 i (ltb-true i k q))).1).0
      go false false q = f i a

rights_finite : (m : Matrix) → FiniteMatrix m → FiniteRow (right_sides m)
unfolding right_sides
rights_finite m f i h = ap is_finite (get_d_table 8 (λ i. entry m i 8) i nan h) ∙ f i 8 h (omega arith)

answers_suc : (n : ℕ) (m : Matrix) → all_finite (answer_steps (suc n) m) ≡ (all_finite (answer_steps n m) && all_finite (carry_steps m (answered n m) (7 - n)))
unfolding answer_steps concatenated
answers_suc n m = append_finite (concatenated n (λ k. carry_steps m (answered k m) (7 - k))) (carry_steps m (answered n m) (7 - n))

answers_none : (m : Matrix) → all_finite (answer_steps 0 m) ≡ true
unfolding answer_steps concatenated
answers_none m = none_finite

pub answers_before : (n : ℕ) (m : Matrix) → n ≤ 8 → FiniteRow (answered n m) → all_finite (answer_steps n m) ≡ true
answers_before zero m h f = answers_none m
answers_before (suc n) m h f =
    let l : 7 - n < 8 = omega arith in
    let g : FiniteRow (carried m (answered n m) (7 - n)) = unfold answered in f in
    answers_suc n m ∙ ap₂ (λ (s t : Bool). s && t) (answers_before n m (omega arith) (sides_before m (answered n m) (7 - n) l g)) (sides_steps m (answered n m) (7 - n) l g)

pub answers_after : (n : ℕ) (m : Matrix) → n ≤ 8 → FiniteMatrix m → all_finite (answer_steps n m) ≡ true → FiniteRow (answered n m)
answers_after zero m h f e = unfold answered in rights_finite m f
answers_after (suc n) m h f e =
    let w = both (all_finite (answer_steps n m)) (all_finite (carry_steps m (answered n m) (7 - n))) (sym (answers_suc n m) ∙ e) in
    subst FiniteRow (sym (answered_suc n m)) (sides_after m (answered n m) (7 - n) (answers_after n m (omega arith) f w.0) w.1)

-- ---- together

diagonal_is : (a : Matrix) → nonzero_diagonal (eliminated 8 a) ≡ no_zero_pivot a
diagonal_is a = every_same 8 (λ k. not (eq (entry (eliminated 8 a) k k) nought)) (λ k. not (eq (pivot_of a k) nought)) (λ k h. ap (λ (r : Row). not (eq (get_or r k nan) nought)) (pivot_kept 8 a k h (omega arith)))

steps_is : (a : Matrix) → (finite_matrix (eliminated 8 a) && finite_answers (answered 8 (eliminated 8 a))) ≡ (all_finite (values a) && all_finite (solve_steps a))
unfolding solve_steps
steps_is a = same _ _ down up
  where
    m : Matrix
    m = eliminated 8 a

    parts : all_finite (elimination_steps 8 a ++ answer_steps 8 m) ≡ (all_finite (elimination_steps 8 a) && all_finite (answer_steps 8 m))
    parts = append_finite (elimination_steps 8 a) (answer_steps 8 m)

    down : (finite_matrix m && finite_answers (answered 8 m)) ≡ true → (all_finite (values a) && all_finite (elimination_steps 8 a ++ answer_steps 8 m)) ≡ true
    down e =
        let w = both (finite_matrix m) (finite_answers (answered 8 m)) e in
        let c = columns_before 8 a (omega arith) (matrix_at m w.0) in
        let s = answers_before 8 m (omega arith) (every_at 8 (λ i. is_finite (get_or (answered 8 m) i nan)) w.1) in
        ap₂ (λ (s t : Bool). s && t) (values_finite a ∙ matrix_true a c.0) (parts ∙ ap₂ (λ (s t : Bool). s && t) c.1 s)

    up : (all_finite (values a) && all_finite (elimination_steps 8 a ++ answer_steps 8 m)) ≡ true → (finite_matrix m && finite_answers (answered 8 m)) ≡ true
    up e =
        let w = both (all_finite (values a)) (all_finite (elimination_steps 8 a ++ answer_steps 8 m)) e in
        let v = both (all_finite (elimination_steps 8 a)) (all_finite (answer_steps 8 m)) (sym parts ∙ w.1) in
        let f = columns_after 8 a (omega arith) (matrix_at a (sym (values_finite a) ∙ w.0)) v.0 in
        ap₂ (λ (s t : Bool). s && t) (matrix_true m f) (every_true 8 (λ i. is_finite (get_or (answered 8 m) i nan)) (answers_after 8 m (omega arith) f v.1))

pub sound_is : (a m : Matrix) (b : Row) (t : Bool) → m ≡ eliminated 8 a → b ≡ answered 8 m → t ≡ (nonzero_diagonal m && (finite_matrix m && finite_answers b)) → t ≡ sound_of a
unfolding sound_of
sound_is a m b t em eb et = et ∙ rw (eb, em) (ap₂ (λ (s t : Bool). s && t) (diagonal_is a) (steps_is a))

-- what `solve` answers
module _ (a m : Matrix) (b : Row) (t : Bool) (em : m ≡ eliminated 8 a) (eb : b ≡ answered 8 m) (et : t ≡ (nonzero_diagonal m && (finite_matrix m && finite_answers b))) where
  pub solved_is : cond t (Ok b) (Err b) ≡ solved a
  unfolding answers_of
  solved_is = rw (← sound_is a m b t em eb et, ← em, ← eb)

  pub solved_ok : t ≡ true → Ok b ≡ solved a
  solved_ok e = rw (← solved_is, e)

  pub solved_err : t ≡ false → Err b ≡ solved a
  solved_err e = rw (← solved_is, e)

  -- and those that count alone, none where they do not
  pub solved_some : t ≡ true → Some b ≡ result_ok (solved a)
  solved_some e = ap result_ok (solved_ok e)

  pub solved_none : t ≡ false → None ≡ result_ok (solved a)
  solved_none e = ap result_ok (solved_err e)

  pub solved_by_count : then_some t b ≡ result_ok (solved a)
  solved_by_count = go t refl
    where
      go : (u : Bool) → t ≡ u → then_some u b ≡ result_ok (solved a)
      go true e = solved_some e
      go false e = solved_none e
