-- Laws of tables and of tests of every place, and the loop that fills a list. Assumes nothing.
use mathlib.Core.Path.{◌≡◌, refl, sym, ap, ◌∙◌}
use mathlib.Core.Bool.{Bool, true, false, ◌&&◌, true≢false}
use mathlib.Core.List.{List, [], ◌∷◌}
use Prim.Native.Nat.{ℕ, zero, suc, ◌+◌, ◌<◌, ◌≤◌}
use native.Mathlib.Nat.{not-suc-le-zero, le_of_suc-le-suc}
use native.Mathlib.Decide.{ℕ_discrete}
use native.Mathlib.Omega.{arith}
use borrow.Author.Count.{below_more}
use borrow.Author.Tests.{ltb-true, ltb-false}
use lib.Dec.{ltb}
use lib.ListN.{length, get_or, set, length-set}
use lib.Seq.{get_or-set_same, get_or-set_other, ext_get_or}
use Rattle.std.specs.List.{list_all, range_with_len}
use Rattle.std.proofs.lemmas.List.FromFn.{length-range_with_len, get_or-range_with_len}
use Rattle.elimination.specs.Tables.{table, every}

-- ---- tables

module _ {ℓ} {A : Type ℓ} where
  pub length_table : (n : ℕ) (f : ℕ → A) → length (table n f) ≡ n
  unfolding table
  length_table zero f = refl
  length_table (suc n) f = ap suc (length_table n (λ k. f (suc k)))

  pub get_d_table : (n : ℕ) (f : ℕ → A) (i : ℕ) (d : A) → i < n → get_or (table n f) i d ≡ f i
  unfolding table
  get_d_table zero f i d h = absurd (not-suc-le-zero h)
  get_d_table (suc n) f zero d h = refl
  get_d_table (suc n) f (suc i) d h = get_d_table n (λ k. f (suc k)) i d (le_of_suc-le-suc h)

  -- a list is the table of what stands in it
  pub table_is : (n : ℕ) (f : ℕ → A) (l : List A) (d : A) → length l ≡ n → ((i : ℕ) → i < n → get_or l i d ≡ f i) → l ≡ table n f
  table_is n f l d e h =
      ext_get_or d l (table n f) (e ∙ sym (length_table n f)) (λ i b. let k : i < n = omega arith in h i k ∙ sym (get_d_table n f i d k))

-- ---- a loop that fills a list of n, from place s on: the first i are new, the others as they were

pub record Filling {A : Type 0} (n s : ℕ) (new : ℕ → A) (d : A) (old l : List A) (i : ℕ) : Type 0 where
  pub from : s ≤ i
  pub upto : i ≤ n
  pub long : length l ≡ n
  pub filled : (k : ℕ) → k < i → get_or l k d ≡ new k
  pub kept : (k : ℕ) → i ≤ k → get_or l k d ≡ get_or old k d

pub filling_start : {A : Type 0} (n s : ℕ) (new : ℕ → A) (d : A) (l : List A) → s ≤ n → length l ≡ n → ((k : ℕ) → k < s → get_or l k d ≡ new k) → Filling n s new d l l s
filling_start n s new d l h e same = record { from = omega arith; upto = h; long = e; filled = same; kept = λ k b. refl }

pub filling_more : {A : Type 0} {n s : ℕ} {new : ℕ → A} {d : A} {old l : List A} {i : ℕ} {x : A} → Filling n s new d old l i → i < n → x ≡ new i → Filling n s new d old (set l i x) (i + 1)
filling_more {n = n} {s = s} {new = new} {d = d} {old = old} {l = l} {i = i} {x = x} g h e = record {
  from = omega (arith, g.from);
  upto = omega arith;
  long = length-set l i x ∙ g.long;
  filled = below_more _ _ (λ k b. get_or-set_other l i k x d (apart k b) ∙ g.filled k b) (get_or-set_same l i x d (omega (arith, g.long)) ∙ e);
  kept = λ k b. get_or-set_other l i k x d (beyond k b) ∙ g.kept k (omega arith);
}
  where
    apart : (k : ℕ) → k < i → k ≡ i → ⊥
    apart k b q = omega arith

    beyond : (k : ℕ) → i + 1 ≤ k → k ≡ i → ⊥
    beyond k b q = omega arith

-- after the loop: the places that are left are right already
pub filling_end : {A : Type 0} {n s : ℕ} {new : ℕ → A} {d : A} {old l : List A} {i : ℕ} → Filling n s new d old l i → ((k : ℕ) → i ≤ k → k < n → get_or old k d ≡ new k) → l ≡ table n new
filling_end {n = n} {new = new} {d = d} {old = old} {l = l} {i = i} g rest = table_is n new l d g.long (λ k h. go k h (ltb k i) refl)
  where
    go : (k : ℕ) → k < n → (t : Bool) → ltb k i ≡ t → get_or l k d ≡ new k
    go k h true e = g.filled k (ltb-true k i e)
    go k h false e = g.kept k (ltb-false k i e) ∙ rest k (ltb-false k i e) h

-- where no place is left
pub filling_whole : {A : Type 0} {n s : ℕ} {new : ℕ → A} {d : A} {old l : List A} {i : ℕ} → Filling n s new d old l i → n ≤ i → l ≡ table n new
filling_whole g h = filling_end g (λ k b c. absurd (omega arith))

-- ---- tests of every place

pub every_true : (n : ℕ) (p : ℕ → Bool) → ((i : ℕ) → i < n → p i ≡ true) → every n p ≡ true
unfolding every
every_true zero p h = refl
every_true (suc n) p h = rw (every_true n p (λ i l. h i (omega arith)), h n (omega arith))

pub both : (a b : Bool) → (a && b) ≡ true → (a ≡ true) × (b ≡ true)
both true b e = (refl, e)
both false b e = absurd (true≢false (sym e))

pub every_at : (n : ℕ) (p : ℕ → Bool) → every n p ≡ true → (i : ℕ) → i < n → p i ≡ true
unfolding every
every_at zero p e i h = absurd (not-suc-le-zero h)
every_at (suc n) p e i h = go (ℕ_discrete i n) (λ l. every_at n p (both (every n p) (p n) e).0 i l)
  where
    go : Dec (i ≡ n) → (i < n → p i ≡ true) → p i ≡ true
    go (yes q) f = ap p q ∙ (both (every n p) (p n) e).1
    go (no q) f = f (omega arith)

-- two tests are the same if each passes where the other does
pub same : (a b : Bool) → (a ≡ true → b ≡ true) → (b ≡ true → a ≡ true) → a ≡ b
same true b f g = sym (f refl)
same false true f g = g refl
same false false f g = refl

pub every_same : (n : ℕ) (p q : ℕ → Bool) → ((i : ℕ) → i < n → p i ≡ q i) → every n p ≡ every n q
every_same n p q h = same (every n p) (every n q) (λ e. every_true n q (λ i l. sym (h i l) ∙ every_at n p e i l)) (λ e. every_true n p (λ i l. h i l ∙ every_at n q e i l))

-- a test of each element of a list of n, or of each number below n, is a test of every place
module _ {A : Type 0} (p : A → Bool) (d : A) where
  all_down : (xs : List A) → list_all p xs ≡ true → (i : ℕ) → i < length xs → p (get_or xs i d) ≡ true
  all_down [] e i h = absurd (not-suc-le-zero h)
  all_down (x ∷ xs) e zero h = (both (p x) (list_all p xs) e).0
  all_down (x ∷ xs) e (suc i) h = all_down xs (both (p x) (list_all p xs) e).1 i (le_of_suc-le-suc h)

  all_up : (xs : List A) → ((i : ℕ) → i < length xs → p (get_or xs i d) ≡ true) → list_all p xs ≡ true
  all_up [] h = refl
  all_up (x ∷ xs) h = rw (h 0 (omega arith), all_up xs (λ i l. h (suc i) (omega arith)))

  pub all_is_every : (n : ℕ) (xs : List A) → length xs ≡ n → list_all p xs ≡ every n (λ i. p (get_or xs i d))
  all_is_every n xs e =
      same (list_all p xs) (every n (λ i. p (get_or xs i d))) (λ t. every_true n (λ i. p (get_or xs i d)) (λ i h. all_down xs t i (omega arith)))
      (λ t. all_up xs (λ i h. every_at n (λ i. p (get_or xs i d)) t i (omega arith)))

pub range_is_every : (n : ℕ) (p : ℕ → Bool) → list_all p (range_with_len 0 n) ≡ every n p
range_is_every n p =
    all_is_every p 0 n (range_with_len 0 n) (length-range_with_len 0 n) ∙ every_same n (λ i. p (get_or (range_with_len 0 n) i 0)) p (λ i h. let e : 0 + i ≡ i = omega arith in ap p (get_or-range_with_len 0 n i 0 h ∙ e))
