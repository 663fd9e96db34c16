-- The steps of elimination and of back substitution, row by row, as the code takes them. Assumes nothing.
use mathlib.Core.Path.{◌≡◌, refl, sym, ap, ◌∙◌}
use mathlib.Core.Bool.{Bool, true, false, cond}
use mathlib.Core.List.{[], ◌++◌}
use Prim.Native.Nat.{ℕ, suc, ◌+◌, ◌-◌, ◌<◌, ◌≤◌}
use native.Mathlib.Numerals.{add-one}
use native.Mathlib.Decide.{ℕ_discrete}
use native.Mathlib.Omega.{arith}
use borrow.Author.Tests.{eq-eqb, ne_eqb, lt-ltb, le-ltb, ltb-true, ltb-false}
use lib.Dec.{eqb, ltb}
use lib.ListN.{length, take, drop, get_or, set, length-set}
use lib.Seq.{get_or-set_same, get_or-set_other}
use lib.Ieee.{Float, nan, lt}
use Rattle.std.proofs.Math.ListN.{get_or-append}
use Rattle.std.proofs.lemmas.List.{take_all, drop_all, append-nil, take-append-drop, length-take-le, length-drop, length-append, set-append_right, get_or-append-add, get_or-append_right, get_or-drop, get_or-take}
use Rattle.elimination.specs.Rounded.{◌⊗◌, magnitude}
use Rattle.elimination.specs.Solve.{Row, Matrix, row, entry, largest, swapped, pivoted, reciprocal, multiplier, gain, gained, cleared, eliminated, right_sides, answer, carry, carried, answered}
use Rattle.elimination.proofs.Tables.{table_is, Filling, filling_start, filling_more, filling_whole}

-- ---- the pivot, chosen among the rows up to row i

pub record Chosen (m : Matrix) (k b i : ℕ) : Type 0 where
  pub past : k < i
  pub upto : i ≤ 8
  pub low : b < i
  pub best : b ≡ largest m k (i - (k + 1))

pub chosen_start : (m : Matrix) (k : ℕ) → k < 8 → Chosen m k k (k + 1)
unfolding largest
chosen_start m k h = record { past = omega arith; upto = omega arith; low = omega arith; best = let e : k + 1 - (k + 1) ≡ 0 = omega arith in rw e }

picked_low : (t : Bool) (b i : ℕ) → b < i → cond t i b < i + 1
picked_low true b i h = omega arith
picked_low false b i h = omega arith

next_best : (m : Matrix) (k b i : ℕ) → k < i → b ≡ largest m k (i - (k + 1)) → cond (lt (magnitude (entry m b k)) (magnitude (entry m i k))) i b ≡ largest m k (i + 1 - (k + 1))
unfolding largest
next_best m k b i h e =
    let f : i + 1 - (k + 1) ≡ suc (i - (k + 1)) = omega arith in
    let s : k + suc (i - (k + 1)) ≡ i = omega arith in
    rw (f, s, e)

pub chosen_more : (m : Matrix) (k b i x : ℕ) → Chosen m k b i → i < 8 → x ≡ cond (lt (magnitude (entry m b k)) (magnitude (entry m i k))) i b → Chosen m k x (i + 1)
chosen_more m k b i x g h e =
    record {
      past = omega arith;
      upto = omega arith;
      low = rw e (picked_low (lt (magnitude (entry m b k)) (magnitude (entry m i k))) b i g.low);
      best = e ∙ next_best m k b i g.past g.best;
    }

pub chosen_end : (m : Matrix) (k b i : ℕ) → Chosen m k b i → 8 ≤ i → b ≡ largest m k (7 - k)
chosen_end m k b i g h = let e : i - (k + 1) ≡ 7 - k = omega arith in g.best ∙ ap (largest m k) e

-- ---- two rows change places

pub swap_set : (m : Matrix) (a b : ℕ) → length m ≡ 8 → a < 8 → b < 8 → set (set m a (row m b)) b (row m a) ≡ swapped m a b
unfolding swapped
swap_set m a b e ha hb = table_is 8 (λ i. row m (cond (eqb i a) b (cond (eqb i b) a i))) s [] long (λ i l. at i l (ℕ_discrete i a) (ℕ_discrete i b))
  where
    s : Matrix
    s = set (set m a (row m b)) b (row m a)

    long : length s ≡ 8
    long = length-set (set m a (row m b)) b (row m a) ∙ length-set m a (row m b) ∙ e

    last : get_or s b [] ≡ row m a
    last = get_or-set_same (set m a (row m b)) b (row m a) [] (omega (arith, length-set m a (row m b)))

    at : (i : ℕ) → i < 8 → Dec (i ≡ a) → Dec (i ≡ b) → get_or s i [] ≡ row m (cond (eqb i a) b (cond (eqb i b) a i))
    at i l (yes p) (yes q) = rw (eq-eqb i a p) (ap (row s) q ∙ last ∙ ap (row m) (sym p ∙ q))
    at i l (no p) (yes q) = rw (ne_eqb i a p, eq-eqb i b q) (ap (row s) q ∙ last)
    at i l (yes p) (no q) = rw (eq-eqb i a p) (get_or-set_other (set m a (row m b)) b i (row m a) [] q ∙ ap (row (set m a (row m b))) p ∙ get_or-set_same m a (row m b) [] (omega arith))
    at i l (no p) (no q) = rw (ne_eqb i a p, ne_eqb i b q) (get_or-set_other (set m a (row m b)) b i (row m a) [] q ∙ get_or-set_other m a i (row m b) [] p)

-- ---- a row that gains: the columns up to j

abbrev gained_at : Row → Row → Float → ℕ → ℕ → Float
gained_at r p w k j = cond (ltb k j) (gain (get_or r j nan) w (get_or p j nan)) (get_or r j nan)

pub record Gaining (r p : Row) (w : Float) (k : ℕ) (l : Row) (j : ℕ) : Type 0 where
  pub fill : Filling 9 (k + 1) (gained_at r p w k) nan r l j

pub gain_start : (r p : Row) (w : Float) (k : ℕ) → length r ≡ 9 → k < 8 → Gaining r p w k r (k + 1)
gain_start r p w k e h = record { fill = filling_start 9 (k + 1) (gained_at r p w k) nan r (omega arith) e (λ j l. rw (le-ltb k j (omega arith))) }

-- the row is written in place: what is read at column j is what stood there
pub gain_more : {r p : Row} {w : Float} {k : ℕ} {l : Row} {j : ℕ} → Gaining r p w k l j → j < 9 → Gaining r p w k (set l j (gain (get_or l j nan) w (get_or p j nan))) (j + 1)
gain_more {p = p} {w = w} {k = k} {j = j} g h = record {
  fill = filling_more g.fill h (rw (lt-ltb k j (omega (arith, g.fill.from))) (ap (λ (x : Float). gain x w (get_or p j nan)) (g.fill.kept j (omega arith))));
}

pub gain_end : {r p : Row} {w : Float} {k : ℕ} {l : Row} {j : ℕ} → Gaining r p w k l j → 9 ≤ j → l ≡ gained r p w k
unfolding gained
gain_end g h = filling_whole g.fill h

-- ---- the rows below row k, up to row i

abbrev cleared_at : Matrix → ℕ → ℕ → Row
cleared_at m k i = cond (ltb k i) (gained (row m i) (row m k) (multiplier m k i) k) (row m i)

pub record Clearing (m : Matrix) (k : ℕ) (n : Matrix) (i : ℕ) : Type 0 where
  pub fill : Filling 8 (k + 1) (cleared_at m k) [] m n i

pub clear_start : (m : Matrix) (k : ℕ) → length m ≡ 8 → k < 8 → Clearing m k m (k + 1)
clear_start m k e h = record { fill = filling_start 8 (k + 1) (cleared_at m k) [] m (omega arith) e (λ i l. rw (le-ltb k i (omega arith))) }

-- the rows are written in place: what row i holds, and row k, is what they held
pub clear_more : {m : Matrix} {k : ℕ} {n : Matrix} {i : ℕ} {x : Row} → Clearing m k n i → i < 8 → x ≡ gained (row n i) (row m k) (entry n i k ⊗ reciprocal m k) k → Clearing m k (set n i x) (i + 1)
clear_more {m} {k} {n} {i} {x} g h e = record {
  fill = filling_more g.fill h (rw (lt-ltb k i (omega (arith, g.fill.from))) (e ∙ ap (λ (r : Row). gained r (row m k) (get_or r k nan ⊗ reciprocal m k) k) (g.fill.kept i (omega arith))));
}

pub clear_end : {m : Matrix} {k : ℕ} {n : Matrix} {i : ℕ} → Clearing m k n i → 8 ≤ i → n ≡ cleared m k
unfolding cleared
clear_end g h = filling_whole g.fill h

-- ---- the same, where the rows below row k are walked by themselves

pub record ClearingBelow (m : Matrix) (k : ℕ) (rows : Matrix) (i : ℕ) : Type 0 where
  pub fits : k < 8
  pub long : length m ≡ 8
  pub whole : Clearing m k (take (k + 1) m ++ rows) (k + 1 + i)

clearing_at : {m : Matrix} {k : ℕ} {a b : Matrix} {i j : ℕ} → b ≡ a → j ≡ i → Clearing m k a i → Clearing m k b j
clearing_at e f g = rw (e, f) g

all_rows : (m : Matrix) (n : ℕ) → length m ≡ 8 → take n m ++ take (8 - n) (drop n m) ≡ m
all_rows m n e = ap (λ (l : Matrix). take n m ++ l) (take_all (8 - n) (drop n m) (omega (arith, length-drop n m))) ∙ take-append-drop n m

pub below_start : (m : Matrix) (k : ℕ) → length m ≡ 8 → k < 8 → ClearingBelow m k (take (8 - (k + 1)) (drop (k + 1) m)) 0
below_start m k e h = record { fits = h; long = e; whole = clearing_at (all_rows m (k + 1) e) (omega arith) (clear_start m k e h) }

module _ {m : Matrix} {k : ℕ} {rows : Matrix} {i : ℕ} (g : ClearingBelow m k rows i) where
  front : length (take (k + 1) m) ≡ k + 1
  front = length-take-le (k + 1) m (omega (arith, g.fits, g.long))

  pub below_more : {x : Row} → i < length rows → x ≡ gained (get_or rows i []) (row m k) (get_or (get_or rows i []) k nan ⊗ reciprocal m k) k → ClearingBelow m k (set rows i x) (i + 1)
  below_more {x} h e = record {
    fits = g.fits;
    long = g.long;
    whole = clearing_at
        (sym (set-append_right (take (k + 1) m) rows (k + 1) (k + 1 + i) x front (omega arith) ∙ ap (λ (j : ℕ). take (k + 1) m ++ set rows j x) gone))
        (omega arith)
        (clear_more g.whole within (e ∙ ap (λ (r : Row). gained r (row m k) (get_or r k nan ⊗ reciprocal m k) k) (sym there)));
  }
    where
      gone : k + 1 + i - (k + 1) ≡ i
      gone = omega arith

      there : get_or (take (k + 1) m ++ rows) (k + 1 + i) [] ≡ get_or rows i []
      there = ap (λ (n : ℕ). get_or (take (k + 1) m ++ rows) (n + i) []) (sym front) ∙ get_or-append-add (take (k + 1) m) rows i []

      within : k + 1 + i < 8
      within = omega (arith, h, front, g.whole.fill.long, length-append (take (k + 1) m) rows)

  pub below_end : length rows ≤ i → take (k + 1) m ++ (rows ++ drop (8 - (k + 1)) (drop (k + 1) m)) ≡ cleared m k
  below_end h =
      ap (λ (l : Matrix). take (k + 1) m ++ (rows ++ l)) (drop_all _ (drop (k + 1) m) (omega (arith, g.fits, g.long, length-drop (k + 1) m)))
      ∙ ap (λ (l : Matrix). take (k + 1) m ++ l) (append-nil rows)
      ∙ clear_end g.whole (omega (arith, h, front, g.whole.fill.long, length-append (take (k + 1) m) rows))

-- ---- the columns, one after the other

pub eliminated_zero : (a : Matrix) → eliminated 0 a ≡ a
unfolding eliminated
eliminated_zero a = refl

pub eliminated_suc : (k : ℕ) (a : Matrix) → eliminated (suc k) a ≡ cleared (pivoted (eliminated k a) k) k
unfolding eliminated
eliminated_suc k a = refl

-- one more column
pub next_column : (k : ℕ) (a m n : Matrix) → m ≡ eliminated k a → n ≡ cleared (pivoted m k) k → n ≡ eliminated (k + 1) a
next_column k a m n e q = rw add-one (q ∙ ap (λ (x : Matrix). cleared (pivoted x k) k) e ∙ sym (eliminated_suc k a))

-- ---- back substitution: one answer, carried to the right sides above, up to row i

abbrev carried_at : Matrix → Row → ℕ → ℕ → Float
carried_at m b k i = cond (eqb i k) (answer m b k) (cond (ltb i k) (carry (get_or b i nan) (answer m b k) (entry m i k)) (get_or b i nan))

pub record Carrying (m : Matrix) (b : Row) (k : ℕ) (l : Row) (i : ℕ) : Type 0 where
  pub within : k < 8
  pub whole : length b ≡ 8
  pub fill : Filling k 0 (carried_at m b k) nan (take k b) l i

pub carry_start : (m : Matrix) (b : Row) (k : ℕ) → length b ≡ 8 → k < 8 → Carrying m b k (take k b) 0
carry_start m b k e h = record { within = h; whole = e; fill = filling_start k 0 (carried_at m b k) nan (take k b) (omega arith) (length-take-le k b (omega arith)) (λ i l. absurd (omega arith)) }

-- the right sides are written in place: what is read at row i is what stood there
pub carry_more : {m : Matrix} {b : Row} {k : ℕ} {l : Row} {i : ℕ} → Carrying m b k l i → i < k → Carrying m b k (set l i (carry (get_or l i nan) (answer m b k) (entry m i k))) (i + 1)
carry_more {m} {b} {k} {l} {i} g h = record {
  within = g.within;
  whole = g.whole;
  fill = filling_more g.fill h (rw (ne_eqb i k apart, lt-ltb i k h) (ap (λ (x : Float). carry x (answer m b k) (entry m i k)) (g.fill.kept i (omega arith) ∙ get_or-take k b i nan h)));
}
  where
    apart : i ≡ k → ⊥
    apart q = omega arith

-- at the end the answer comes into its own row
pub carry_end : {m : Matrix} {b : Row} {k : ℕ} {l : Row} {i : ℕ} → Carrying m b k l i → k ≤ i → set (l ++ drop k b) k (answer m b k) ≡ carried m b k
unfolding carried
carry_end {m} {b} {k} {l} {i} g h = table_is 8 (carried_at m b k) (set (l ++ drop k b) k x) nan (length-set (l ++ drop k b) k x ∙ long) (λ j p. at j (ℕ_discrete j k) (ltb j k) refl)
  where
    x : Float
    x = answer m b k

    long : length (l ++ drop k b) ≡ 8
    long = simp (length-append, length-drop, g.fill.long, g.whole) (omega (arith, g.within))

    at : (j : ℕ) → Dec (j ≡ k) → (t : Bool) → ltb j k ≡ t → get_or (set (l ++ drop k b) k x) j nan ≡ carried_at m b k j
    at j (yes q) t e = rw (eq-eqb j k q) (ap (λ (n : ℕ). get_or (set (l ++ drop k b) k x) n nan) q ∙ get_or-set_same (l ++ drop k b) k x nan (omega (arith, g.within, long)))
    at j (no q) true e =
        let low : j < k = ltb-true j k e in
        rw (ne_eqb j k q, e) (get_or-set_other (l ++ drop k b) k j x nan q ∙ get_or-append l (drop k b) nan j (omega (arith, g.fill.long)) ∙ g.fill.filled j (omega arith) ∙ rw (ne_eqb j k q, e) refl)
    at j (no q) false e =
        let high : k ≤ j = ltb-false j k e in
        rw (ne_eqb j k q, e) (get_or-set_other (l ++ drop k b) k j x nan q ∙ get_or-append_right l (drop k b) k j nan g.fill.long high ∙ get_or-drop k b (j - k) nan ∙ ap (λ (n : ℕ). get_or b n nan) (omega arith))

-- ---- the answers, from the last to the first: those from row k on are carried

pub answering_start : (m : Matrix) (b : Row) → b ≡ right_sides m → b ≡ answered 0 m
unfolding answered
answering_start m b e = e

pub answered_suc : (n : ℕ) (m : Matrix) → answered (suc n) m ≡ carried m (answered n m) (7 - n)
unfolding answered
answered_suc n m = refl

pub answering_more : (m : Matrix) (b c : Row) (k : ℕ) → b ≡ answered (8 - k) m → 0 < k → k ≤ 8 → c ≡ carried m b (k - 1) → c ≡ answered (8 - (k - 1)) m
answering_more m b c k e h l q =
    let n : 8 - (k - 1) ≡ suc (8 - k) = omega arith in
    let r : 7 - (8 - k) ≡ k - 1 = omega arith in
    rw (n, answered_suc (8 - k) m, r) (q ∙ ap (λ (x : Row). carried m x (k - 1)) e)
