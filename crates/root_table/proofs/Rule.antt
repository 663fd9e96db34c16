-- The rule of the table, proved at every entry by one test that antt computes over the whole table; and that a number has one whole root. Assumes nothing.
use mathlib.Core.Path.{◌≡◌, refl, sym, subst, ◌∙◌}
use mathlib.Core.Bool.{Bool, true, ◌&&◌}
use mathlib.Core.List.{List, [], ◌∷◌}
use Prim.Native.Nat.{ℕ, zero, suc, ◌+◌, ◌*◌, ◌≤◌, ◌<◌}
use native.Mathlib.Nat.{add-zero, zero-add, add-suc, suc-add, le_of_suc-le-suc, not-suc-le-zero, lt_of_not-le, lt_of_le_of_lt, mul-le-mul}
use native.Mathlib.Omega.{arith}
use lib.Dec.{T, leb, ltb, leb→le, ltb→lt}
use lib.Ieee.Fits.{and_l, and_r}
use lib.ListN.{length, get_or}
use Rattle.root_table.specs.Whole.{WholePart, is_whole_part}
use Rattle.root_table.specs.Roots.{roots, entry}

-- ---- a test over a list

-- the test passes at each number of the list and its place, counted from i
abbrev every_from : (ℕ → ℕ → Bool) → ℕ → List ℕ → Bool
every_from f i [] = true
every_from f i (x ∷ xs) = f i x && every_from f (suc i) xs

every_at : (f : ℕ → ℕ → Bool) (i : ℕ) (xs : List ℕ) → T (every_from f i xs) → (k : ℕ) → k < length xs → T (f (i + k) (get_or xs k 0))
every_at f i [] t k h = absurd (not-suc-le-zero h)
every_at f i (x ∷ xs) t zero h = subst (λ (m : ℕ). T (f m x)) (sym (add-zero i)) (and_l (f i x) (every_from f (suc i) xs) t)
every_at f i (x ∷ xs) t (suc k) h =
    subst (λ (m : ℕ). T (f m (get_or xs k 0))) (suc-add i k ∙ sym (add-suc i k))
    (every_at f (suc i) xs (and_r (f i x) (every_from f (suc i) xs) t) k (le_of_suc-le-suc h))

-- ---- the rule

-- the one test: antt computes it at all entries
passes : T (every_from (λ k x. is_whole_part (1024 * k) x) 0 roots)
unfolding roots is_whole_part
passes = tt

-- "Use a table of 1,024 entries"
entries : length roots ≡ 1024
unfolding roots
entries = refl

-- the test says what the relation says
whole : (n s : ℕ) → T (is_whole_part n s) → WholePart n s
unfolding is_whole_part
whole n s t = record {
  from = leb→le (s * s) n (and_l (leb (s * s) n) (ltb n ((s + 1) * (s + 1))) t);
  to = ltb→lt n ((s + 1) * (s + 1)) (and_r (leb (s * s) n) (ltb n ((s + 1) * (s + 1))) t);
}

-- "entry k being the whole part of the root of 1,024 × k, its rule proved for every entry"
pub rule : (k : ℕ) → k < 1024 → WholePart (1024 * k) (entry k)
unfolding entry
rule k h =
    whole (1024 * k) (get_or roots k 0)
    (subst (λ (m : ℕ). T (is_whole_part (1024 * m) (get_or roots k 0))) (zero-add k)
    (every_at (λ k x. is_whole_part (1024 * k) x) 0 roots passes k (subst (λ (m : ℕ). k < m) (sym entries) h)))

-- the smaller square is the smaller number's
pub square_less : (a b : ℕ) → a * a < b * b → a < b
square_less a b h = lt_of_not-le (λ (g : b ≤ a). absurd (no (mul-le-mul g g)))
  where
    no : b * b ≤ a * a → ⊥
    no g = omega arith

-- a number has one whole root: no other s meets the rule
pub one_whole_part : {n s t : ℕ} → WholePart n s → WholePart n t → s ≡ t
one_whole_part {n} {s} {t} a b =
    omega (arith, square_less s (t + 1) (lt_of_le_of_lt a.from b.to), square_less t (s + 1) (lt_of_le_of_lt b.from a.to))
