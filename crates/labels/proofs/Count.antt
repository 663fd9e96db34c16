-- Laws of counting: how many numbers below a number pass a test. Numbers that pass one test, sent one to one to numbers that pass another,
-- are not more; so a test carried over a shuffle is passed as often. Assumes nothing.
use mathlib.Core.Path.{◌≡◌, refl, sym, ap, ap₂, ◌∙◌}
use mathlib.Core.Bool.{Bool, true, false, not, ◌&&◌, cond}
use Prim.Native.Nat.{ℕ, zero, suc, ◌+◌, ◌<◌, ◌≤◌}
use native.Mathlib.Numerals.{add-one}
use native.Mathlib.Omega.{arith}
use borrow.Author.Tests.{eq-eqb, ne_eqb}
use lib.Dec.{eqb}
use lib.ListN.{length, length-append}
use Rattle.sheet.specs.Pairing.{Shuffle}
use Rattle.sheet.proofs.Pairing.{to_one}
use Rattle.labels.specs.Labelled.{any_below}
use Rattle.labels.proofs.Below.{passing_none, passing_hit, passing_miss, passing_ext, passing_few, passing_one_more, any_hit, any_yes, any_no, any_none}
use Rattle.labels.specs.Count.{how_many}

-- ---- one number more

module _ (f : ℕ → Bool) where
  pub many_start : how_many f 0 ≡ 0
  many_start = rw (passing_none f)

  pub many_more : (n : ℕ) → how_many f (n + 1) ≡ how_many f n + cond (f n) 1 0
  many_more n = go (f n) refl
    where
      go : (t : Bool) → f n ≡ t → how_many f (n + 1) ≡ how_many f n + cond t 1 0
      go true e = rw (passing_hit f n e, length-append) (omega arith)
      go false e = rw (passing_miss f n e) (omega arith)

  pub many_few : (n : ℕ) → how_many f n ≤ n
  many_few = passing_few f

pub many_ext : (f g : ℕ → Bool) (n : ℕ) → ((k : ℕ) → k < n → f k ≡ g k) → how_many f n ≡ how_many g n
many_ext f g n h = rw (passing_ext f g n h)

-- none passes
pub many_none : (f : ℕ → Bool) (n : ℕ) → ((k : ℕ) → k < n → f k ≡ false) → how_many f n ≡ 0
many_none f zero h = many_start f
many_none f (suc n) h = let e : how_many f (suc n) ≡ how_many f n = rw (add-one n) at (ap length (passing_miss f n (h n (omega arith)))) in
    e ∙ many_none f n (λ k l. h k (omega arith))

-- ---- a loop that counts: m of the first i pass

pub record Tallying (f : ℕ → Bool) (n m i : ℕ) : Type 0 where
  pub upto : i ≤ n
  pub so_far : m ≡ how_many f i

pub tallying_start : (f : ℕ → Bool) (n : ℕ) → Tallying f n 0 0
tallying_start f n = record { upto = omega arith; so_far = sym (many_start f) }

module _ {f : ℕ → Bool} {n m i : ℕ} (t : Tallying f n m i) where
  pub tallying_more : {one : ℕ} → i < n → one ≡ cond (f i) 1 0 → Tallying f n (m + one) (i + 1)
  tallying_more h e = record { upto = omega arith; so_far = ap₂ ◌+◌ t.so_far e ∙ sym (many_more f i) }

  pub tallying_few : m ≤ i
  tallying_few = omega (arith, t.so_far, many_few f i)

  pub tallying_end : n ≤ i → m ≡ how_many f n
  tallying_end h = let e : i ≡ n = omega (arith, t.upto) in t.so_far ∙ ap (how_many f) e

-- ---- one to one

-- the numbers below m that pass f go to numbers below n that pass g, no two to one
pub record Into (f g : ℕ → Bool) (m n : ℕ) (to : ℕ → ℕ) : Type 0 where
  pub lands : (i : ℕ) → i < m → f i ≡ true → to i < n
  pub passes : (i : ℕ) → i < m → f i ≡ true → g (to i) ≡ true
  pub apart : (i j : ℕ) → i < m → j < m → to i ≡ to j → i ≡ j

-- all that pass but p
abbrev but : (ℕ → Bool) → ℕ → ℕ → Bool
but g p q = g q && not (eqb q p)

but_other : (g : ℕ → Bool) (p q : ℕ) → (q ≡ p → ⊥) → g q ≡ but g p q
but_other g p q d = rw (ne_eqb q p d) (go (g q))
  where
    go : (t : Bool) → t ≡ (t && true)
    go true = refl
    go false = refl

but_not : (g : ℕ → Bool) (p : ℕ) → but g p p ≡ false
but_not g p = rw (eq-eqb p p refl) (go (g p))
  where
    go : (t : Bool) → (t && false) ≡ false
    go true = refl
    go false = refl

-- then they are not more
pub many_into : (f g : ℕ → Bool) (m n : ℕ) (to : ℕ → ℕ) → Into f g m n to → how_many f m ≤ how_many g n
many_into f g zero n to h = omega (arith, many_start f)
many_into f g (suc m) n to h = go (f m) refl (λ g' p. many_into f g' m n to (record { lands = λ i l. h.lands i (omega arith); passes = p; apart = λ i j k l. h.apart i j (omega arith) (omega arith) }))
  where
    go : (t : Bool) → f m ≡ t → ((g' : ℕ → Bool) → ((i : ℕ) → i < m → f i ≡ true → g' (to i) ≡ true) → how_many f m ≤ how_many g' n) → how_many f (suc m) ≤ how_many g n
    go false e rest = rw (sym (add-one m), passing_miss f m e) (rest g (λ i l. h.passes i (omega arith)))
    go true e rest =
        let other : (i : ℕ) → i < m → to i ≡ to m → ⊥ = λ i l q. let z = h.apart i m (omega arith) (omega arith) q in omega arith in
        let r = rest (but g (to m)) (λ i l p. sym (but_other g (to m) (to i) (other i l)) ∙ h.passes i (omega arith) p) in
        let w = passing_one_more (but g (to m)) g n (to m) (h.lands m (omega arith) e) (but_not g (to m)) (h.passes m (omega arith) e) (λ q l d. but_other g (to m) q d) in
        rw (sym (add-one m), passing_hit f m e, length-append) (omega arith)

-- ---- a test carried over a shuffle

module _ {n : ℕ} (s : Shuffle n) (f g : ℕ → Bool) (same : (i : ℕ) → i < n → g (s.to i) ≡ f i) where
  back : (j : ℕ) → j < n → f (s.from j) ≡ g j
  back j h = sym (same (s.from j) (s.from_in j h)) ∙ ap g (s.to_from j h)

  -- as many pass
  pub many_paired : how_many g n ≡ how_many f n
  many_paired = omega (
    arith,
    many_into f g n n s.to (record { lands = λ i h e. s.to_in i h; passes = λ i h e. same i h ∙ e; apart = to_one s }),
    many_into g f n n s.from (record { lands = λ j h e. s.from_in j h; passes = λ j h e. back j h ∙ e; apart = λ i j g h e. sym (s.to_from i g) ∙ ap s.to e ∙ s.to_from j h }),
  )

  -- and one passes in both or in neither
  pub any_paired : any_below n g ≡ any_below n f
  any_paired = go (any_below n f) refl
    where
      go : (t : Bool) → any_below n f ≡ t → any_below n g ≡ t
      go true e = let p = any_yes f n e in any_hit g n (s.to p.number) (s.to_in _ p.below) (same _ p.below ∙ p.passes)
      go false e = any_no g n (λ j h. sym (back j h) ∙ any_none f n (s.from j) e (s.from_in j h))
