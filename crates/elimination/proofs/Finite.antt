-- What a finite result says of what it was made from, and lists of finite values. Assumes nothing.
use mathlib.Core.Path.{◌≡◌, refl, sym, ◌∙◌}
use mathlib.Core.Bool.{Bool, true, false, cond, ◌&&◌, true≢false}
use mathlib.Core.List.{List, [], ◌∷◌, ◌++◌}
use Prim.Native.Nat.{ℕ, zero, suc, ◌<◌}
use native.Mathlib.Nat.{not-suc-le-zero}
use native.Mathlib.Omega.{arith}
use lib.Dec.{eqb}
use lib.ListN.{length, get_or}
use lib.Ieee.{Float, Format, nan, inf, fin, add, mul, div, unlike}
use Rattle.binary32.specs.Ranges.{is_finite, all_finite}
use Rattle.elimination.specs.Tables.{table, concatenated, every}
use Rattle.elimination.proofs.Tables.{both, same, every_true, every_at}

-- ---- sums, products, quotients

pub add_finite : (f : Format) (x y : Float) → is_finite (add f x y) ≡ true → (is_finite x ≡ true) × (is_finite y ≡ true)
unfolding is_finite add
add_finite f nan y e = absurd (true≢false (sym e))
add_finite f (inf s) nan e = absurd (true≢false (sym e))
add_finite f (inf true) (inf true) e = absurd (true≢false (sym e))
add_finite f (inf true) (inf false) e = absurd (true≢false (sym e))
add_finite f (inf false) (inf true) e = absurd (true≢false (sym e))
add_finite f (inf false) (inf false) e = absurd (true≢false (sym e))
add_finite f (inf s) (fin t n d) e = absurd (true≢false (sym e))
add_finite f (fin s m d) nan e = absurd (true≢false (sym e))
add_finite f (fin s m d) (inf t) e = absurd (true≢false (sym e))
add_finite f (fin s m d) (fin t n c) e = (refl, refl)

never : (t s : Bool) → is_finite (cond t nan (inf s)) ≡ true → ⊥
unfolding is_finite
never true s e = true≢false (sym e)
never false s e = true≢false (sym e)

pub mul_finite : (f : Format) (x y : Float) → is_finite (mul f x y) ≡ true → (is_finite x ≡ true) × (is_finite y ≡ true)
unfolding is_finite mul
mul_finite f nan y e = absurd (true≢false (sym e))
mul_finite f (inf s) nan e = absurd (true≢false (sym e))
mul_finite f (inf s) (inf t) e = absurd (true≢false (sym e))
mul_finite f (inf s) (fin t n d) e = absurd (never (eqb n 0) (unlike s t) e)
mul_finite f (fin s m d) nan e = absurd (true≢false (sym e))
mul_finite f (fin s m d) (inf t) e = absurd (never (eqb m 0) (unlike s t) e)
mul_finite f (fin s m d) (fin t n c) e = (refl, refl)

-- only what is divided is finite for sure: a number divided by an infinity is a zero
pub div_finite : (f : Format) (x y : Float) → is_finite (div f x y) ≡ true → is_finite x ≡ true
unfolding is_finite div
div_finite f nan y e = absurd (true≢false (sym e))
div_finite f (inf s) nan e = absurd (true≢false (sym e))
div_finite f (inf s) (inf t) e = absurd (true≢false (sym e))
div_finite f (inf s) (fin t n d) e = absurd (true≢false (sym e))
div_finite f (fin s m d) y e = refl

-- ---- lists

pub one_finite : (x : Float) (xs : List Float) → is_finite x ≡ true → all_finite xs ≡ true → all_finite (x ∷ xs) ≡ true
unfolding all_finite
one_finite x xs e h = rw (e, h)

pub none_finite : all_finite [] ≡ true
unfolding all_finite
none_finite = refl

pub parts_finite : (x : Float) (xs : List Float) → all_finite (x ∷ xs) ≡ true → (is_finite x ≡ true) × (all_finite xs ≡ true)
unfolding all_finite
parts_finite x xs e = both (is_finite x) (all_finite xs) e

pub append_finite : (xs ys : List Float) → all_finite (xs ++ ys) ≡ (all_finite xs && all_finite ys)
unfolding all_finite
append_finite [] ys = refl
append_finite (x ∷ xs) ys = go (is_finite x) (append_finite xs ys)
  where
    go : (t : Bool) → all_finite (xs ++ ys) ≡ (all_finite xs && all_finite ys) → (t && all_finite (xs ++ ys)) ≡ ((t && all_finite xs) && all_finite ys)
    go true e = e
    go false e = refl

-- two lists put together, and taken apart
pub joined : (xs ys : List Float) → all_finite xs ≡ true → all_finite ys ≡ true → all_finite (xs ++ ys) ≡ true
joined xs ys e f = append_finite xs ys ∙ rw (e, f)

pub apart : (xs ys : List Float) → all_finite (xs ++ ys) ≡ true → (all_finite xs ≡ true) × (all_finite ys ≡ true)
apart xs ys e = both (all_finite xs) (all_finite ys) (sym (append_finite xs ys) ∙ e)

pub gathered_finite : (n : ℕ) (f : ℕ → List Float) → all_finite (concatenated n f) ≡ every n (λ i. all_finite (f i))
unfolding concatenated all_finite every
gathered_finite zero f = refl
gathered_finite (suc n) f = append_finite (concatenated n f) (f n) ∙ rw (gathered_finite n f)

pub gathered_at : (n : ℕ) (f : ℕ → List Float) → all_finite (concatenated n f) ≡ true → (i : ℕ) → i < n → all_finite (f i) ≡ true
gathered_at n f e = every_at n (λ i. all_finite (f i)) (sym (gathered_finite n f) ∙ e)

pub gathered_true : (n : ℕ) (f : ℕ → List Float) → ((i : ℕ) → i < n → all_finite (f i) ≡ true) → all_finite (concatenated n f) ≡ true
gathered_true n f h = gathered_finite n f ∙ every_true n (λ i. all_finite (f i)) h

-- of a list that counts only under a test
pub where_true : (t : Bool) (xs : List Float) → (t ≡ true → all_finite xs ≡ true) → all_finite (cond t xs []) ≡ true
where_true true xs h = h refl
where_true false xs h = none_finite

-- each value of a list of finite values is finite
pub at_finite : (xs : List Float) → all_finite xs ≡ true → (i : ℕ) → i < length xs → is_finite (get_or xs i nan) ≡ true
at_finite [] e i h = absurd (not-suc-le-zero h)
at_finite (x ∷ xs) e zero h = (parts_finite x xs e).0
at_finite (x ∷ xs) e (suc i) h = at_finite xs (parts_finite x xs e).1 i (omega arith)

table_up : (n : ℕ) (f : ℕ → Float) → ((i : ℕ) → i < n → is_finite (f i) ≡ true) → all_finite (table n f) ≡ true
unfolding table all_finite
table_up zero f h = refl
table_up (suc n) f h = rw (h 0 (omega arith), table_up n (λ k. f (suc k)) (λ i l. h (suc i) (omega arith)))

table_down : (n : ℕ) (f : ℕ → Float) → all_finite (table n f) ≡ true → (i : ℕ) → i < n → is_finite (f i) ≡ true
unfolding table
table_down zero f e i h = absurd (not-suc-le-zero h)
table_down (suc n) f e zero h = (parts_finite (f 0) (table n (λ k. f (suc k))) e).0
table_down (suc n) f e (suc i) h = table_down n (λ k. f (suc k)) (parts_finite (f 0) (table n (λ k. f (suc k))) e).1 i (omega arith)

pub table_finite : (n : ℕ) (f : ℕ → Float) → all_finite (table n f) ≡ every n (λ i. is_finite (f i))
table_finite n f =
    same (all_finite (table n f)) (every n (λ i. is_finite (f i)))
    (λ e. every_true n (λ i. is_finite (f i)) (table_down n f e)) (λ e. table_up n f (every_at n (λ i. is_finite (f i)) e))
