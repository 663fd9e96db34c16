-- Eight equations in eight unknowns, solved as document 01, "Fit", has it: the largest pivot, elimination, back substitution.
-- Each value that a step gives is named, so that "a non-finite value at any step" can be said of all of them. Definitions only.
use Rattle.std.specs.Prelude.{Bool, cond, ◌&&◌, not, List, [], ◌∷◌, ◌++◌, ℕ, zero, suc, ◌+◌, ◌-◌, get_or, eqb, ltb, Result, Ok, Err, Float}
use Rattle.std.specs.Float.{nan}
use Rattle.std.specs.Float.Ieee.{neg, lt, eq}
use Rattle.binary32.specs.Ranges.{is_finite, all_finite}
use Rattle.binary32.specs.Numbers.{nought, one}
use Rattle.elimination.specs.Rounded.{◌⊕◌, ◌⊗◌, ◌⊘◌, magnitude}
use Rattle.elimination.specs.Tables.{table, concatenated, every}

-- an equation: eight coefficients, and the right side in column 8
abbrev pub Row : Type 0
Row = List Float

-- eight equations
abbrev pub Matrix : Type 0
Matrix = List Row

abbrev pub row : Matrix → ℕ → Row
row m i = get_or m i []

abbrev pub entry : Matrix → ℕ → ℕ → Float
entry m i j = get_or (row m i) j nan

-- all its values
abbrev pub values : Matrix → List Float
values m = concatenated 8 (λ i. table 9 (entry m i))

-- ---- elimination, column by column

-- "Each column takes the largest magnitude at or below the diagonal, the first of equals": of the rows k to k + n, in column k
unfoldable pub largest : Matrix → ℕ → ℕ → ℕ
largest m k zero = k
largest m k (suc n) =
    let b = largest m k n in
    cond (lt (magnitude (entry m b k)) (magnitude (entry m (k + suc n) k))) (k + suc n) b

-- two rows change places
unfoldable pub swapped : Matrix → ℕ → ℕ → Matrix
swapped m a b = table 8 (λ i. row m (cond (eqb i a) b (cond (eqb i b) a i)))

-- the pivot's row comes to the diagonal
abbrev pub pivoted : Matrix → ℕ → Matrix
pivoted m k = swapped m k (largest m k (7 - k))

-- the pivot's reciprocal, which a lower row uses
abbrev pub reciprocal : Matrix → ℕ → Float
reciprocal m k = one ⊘ entry m k k

-- "A lower row's multiplier is its entry times the pivot's reciprocal"
abbrev pub multiplier : Matrix → ℕ → ℕ → Float
multiplier m k i = entry m i k ⊗ reciprocal m k

-- "The row, right side included, gains multiplier times the negated pivot row": the row has r where the pivot row has p
abbrev pub gain : Float → Float → Float → Float
gain r w p = r ⊕ w ⊗ neg p

-- a row that gains, in the columns right of column k: the others are not read again
unfoldable pub gained : Row → Row → Float → ℕ → Row
gained r p w k = table 9 (λ j. cond (ltb k j) (gain (get_or r j nan) w (get_or p j nan)) (get_or r j nan))

-- each row below row k gains
unfoldable pub cleared : Matrix → ℕ → Matrix
cleared m k = table 8 (λ i. cond (ltb k i) (gained (row m i) (row m k) (multiplier m k i) k) (row m i))

-- the first n columns, one after the other
unfoldable pub eliminated : ℕ → Matrix → Matrix
eliminated zero m = m
eliminated (suc k) m = cleared (pivoted (eliminated k m) k) k

-- column k's pivot
abbrev pub pivot_of : Matrix → ℕ → Float
pivot_of m k = entry (pivoted (eliminated k m) k) k k

-- "a zero means no fit"
abbrev pub no_zero_pivot : Matrix → Bool
no_zero_pivot m = every 8 (λ k. not (eq (pivot_of m k) nought))

-- ---- the values of its steps

-- at column j of a lower row i: the product and the sum
abbrev pub gain_steps : Matrix → ℕ → ℕ → ℕ → List Float
gain_steps m k i j = multiplier m k i ⊗ neg (entry m k j) ∷ gain (entry m i j) (multiplier m k i) (entry m k j) ∷ []

-- at a lower row i: the pivot's reciprocal, the multiplier, and the gain of each column right of the pivot
abbrev pub lower_steps : Matrix → ℕ → ℕ → List Float
lower_steps m k i = reciprocal m k ∷ multiplier m k i ∷ concatenated 9 (λ j. cond (ltb k j) (gain_steps m k i j) [])

-- at column k: there is no lower row in the last, so its pivot's reciprocal is no step
unfoldable pub column_steps : Matrix → ℕ → List Float
column_steps m k = concatenated 8 (λ i. cond (ltb k i) (lower_steps m k i) [])

-- of the first n columns
unfoldable pub elimination_steps : ℕ → Matrix → List Float
elimination_steps n m = concatenated n (λ k. column_steps (pivoted (eliminated k m) k) k)

-- ---- back substitution, from the last row to the first

-- the right sides
unfoldable pub right_sides : Matrix → Row
right_sides m = table 8 (λ i. entry m i 8)

-- "dividing by the diagonal": answer k, where b holds the right sides
abbrev pub answer : Matrix → Row → ℕ → Float
answer m b k = get_or b k nan ⊘ entry m k k

-- "each answer, negated and times its column, is added to the right sides above before the next"
abbrev pub carry : Float → Float → Float → Float
carry b x a = b ⊕ neg x ⊗ a

-- after answer k: the answer stands in its own row, and the right sides above are carried on
unfoldable pub carried : Matrix → Row → ℕ → Row
carried m b k =
    table 8 (λ i. cond (eqb i k) (answer m b k) (cond (ltb i k) (carry (get_or b i nan) (answer m b k) (entry m i k)) (get_or b i nan)))

-- after the last n answers, of rows 7, 6, ..
unfoldable pub answered : ℕ → Matrix → Row
answered zero m = right_sides m
answered (suc n) m = carried m (answered n m) (7 - n)

-- the values of the steps at answer k: the answer, and for each right side above the product and the sum
unfoldable pub carry_steps : Matrix → Row → ℕ → List Float
carry_steps m b k =
    answer m b k ∷ concatenated k (λ i. neg (answer m b k) ⊗ entry m i k ∷ carry (get_or b i nan) (answer m b k) (entry m i k) ∷ [])

-- of the last n answers
unfoldable pub answer_steps : ℕ → Matrix → List Float
answer_steps n m = concatenated n (λ k. carry_steps m (answered k m) (7 - k))

-- ---- both

-- the values of all steps
unfoldable pub solve_steps : Matrix → List Float
solve_steps m = elimination_steps 8 m ++ answer_steps 8 (eliminated 8 m)

-- the eight answers
unfoldable pub answers_of : Matrix → Row
answers_of m = answered 8 (eliminated 8 m)

-- whether they count: no pivot is zero, and neither a given value nor that of a step is non-finite
unfoldable pub sound_of : Matrix → Bool
sound_of m = no_zero_pivot m && (all_finite (values m) && all_finite (solve_steps m))

-- so the answers: `Err` holds those that do not count
abbrev pub solved : Matrix → Result Row Row
solved m = cond (sound_of m) (Ok (answers_of m)) (Err (answers_of m))

-- ---- what is looked at to find out whether the answers count, once the work is done

-- no entry on the diagonal is zero
abbrev pub nonzero_diagonal : Matrix → Bool
nonzero_diagonal m = every 8 (λ k. not (eq (entry m k k) nought))

-- each entry of a row, of a matrix, and each answer is finite
abbrev pub finite_row : Row → Bool
finite_row r = every 9 (λ j. is_finite (get_or r j nan))

abbrev pub finite_matrix : Matrix → Bool
finite_matrix m = every 8 (λ i. finite_row (row m i))

abbrev pub finite_answers : Row → Bool
finite_answers b = every 8 (λ i. is_finite (get_or b i nan))
