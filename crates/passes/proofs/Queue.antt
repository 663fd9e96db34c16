-- Laws of grow's queue: what is a member, how much longer each step makes the queue, and that its places are cells of the sheet, all
-- different, those that are left unlabelled. Assumes nothing.
use Rattle.std.specs.Prelude.{Option, Some, None}
use mathlib.Core.Path.{◌≡◌, refl, sym, ap, ◌∙◌, subst}
use mathlib.Core.Bool.{Bool, true, false, not, cond, ◌&&◌, ◌||◌}
use mathlib.Core.List.{List, [], ◌∷◌, ◌++◌}
use Prim.Native.Nat.{ℕ, zero, suc, ◌+◌, ◌*◌, ◌<◌, ◌≤◌}
use native.Mathlib.Nat.{not-suc-le-zero}
use native.Mathlib.Decide.{ℕ_discrete}
use native.Mathlib.Omega.{arith}
use borrow.Author.Tests.{eqb-false, not-true}
use lib.Dec.{T, eqb}
use lib.ListN.{length, get_or, length-append, get_or-append}
use lib.Seq.{get_or-append_seam}
use Rattle.sheet.specs.Cells.{on_sheet, place_of, cell_of, moved}
use Rattle.sheet.specs.Words.{label_of, label_at, attached}
use Rattle.sheet.specs.declared.Cell.{Cell}
use Rattle.sheet.specs.declared.Offset.{Offset}
use Rattle.sheet.proofs.Laws.{place_in, place_cell, cell_place}
use Rattle.labels.specs.Labelled.{names_corner, Attaching, SameLabels}
use Rattle.labels.proofs.Below.{no_both, both}
use Rattle.labels.proofs.Labelled.{label_of_place, word_else}
use Rattle.positions_policy.specs.Edge.{cardinal_offsets}
use Rattle.passes.specs.Grow.{member, wanted, enqueued, enqueued_at, spread, seeded_from}

-- ---- members

pub member_more : (p q : ℕ) (l : List ℕ) → member p (l ++ (q ∷ [])) ≡ (eqb p q || member p l)
unfolding member
member_more p q [] = go (eqb p q)
  where
    go : (t : Bool) → cond t true false ≡ (t || false)
    go true = refl
    go false = refl
member_more p q (x ∷ l) = rw (member_more p q l) (go (eqb p x) (eqb p q) (member p l))
  where
    go : (s t m : Bool) → cond s true (t || m) ≡ (t || cond s true m)
    go true true m = refl
    go true false m = refl
    go false true m = refl
    go false false m = refl

pub not_member : (p : ℕ) (l : List ℕ) → member p l ≡ false → (i : ℕ) → i < length l → get_or l i 0 ≡ p → ⊥
unfolding member
not_member p [] e i h d = not-suc-le-zero h
not_member p (x ∷ l) e i h d = go (eqb p x) refl e (not_member p l) i h d
  where
    go : (t : Bool) → eqb p x ≡ t → cond t true (member p l) ≡ false → (member p l ≡ false → (i : ℕ) → i < length l → get_or l i 0 ≡ p → ⊥) → (i : ℕ) → i < length (x ∷ l) → get_or (x ∷ l) i 0 ≡ p → ⊥
    go true f g w i h d = no_both true refl g
    go false f g w zero h d = eqb-false p x f (sym d)
    go false f g w (suc i) h d = w g i (omega arith) d

-- ---- a place more

-- the last is the new one, and those before it are as they were
module _ (l : List ℕ) (p : ℕ) where
  pub last_at : get_or (l ++ (p ∷ [])) (length l) 0 ≡ p
  last_at = get_or-append_seam l p [] 0

  pub older_at : (i : ℕ) → i < length l → get_or (l ++ (p ∷ [])) i 0 ≡ get_or l i 0
  older_at i h = get_or-append l (p ∷ []) 0 i h

  pub more_length : length (l ++ (p ∷ [])) ≡ length l + 1
  more_length = length-append l (p ∷ [])

-- ---- how much longer the queue becomes

-- as long or longer, by at most n
pub record Longer (n : ℕ) (before after : List ℕ) : Type 0 where
  pub more : length before ≤ length after
  pub few : length after ≤ length before + n

pub enqueued_longer : (sheet : List ℕ) (c : Cell) (queued : List ℕ) → Longer 1 queued (enqueued sheet c queued)
unfolding enqueued
enqueued_longer sheet c queued = go (wanted sheet queued c)
  where
    go : (t : Bool) → Longer 1 queued (cond t (queued ++ (place_of c ∷ [])) queued)
    go true = let e = more_length queued (place_of c) in record { more = omega arith; few = omega arith }
    go false = record { more = omega arith; few = omega arith }

pub at_longer : (sheet : List ℕ) (c : Cell) (os : List Offset) (queued : List ℕ) → Longer (length os) queued (enqueued_at sheet c os queued)
unfolding enqueued_at
at_longer sheet c [] queued = record { more = omega arith; few = omega arith }
at_longer sheet c (o ∷ os) queued =
    let a = enqueued_longer sheet (moved c o) queued in
    let b = at_longer sheet c os (enqueued sheet (moved c o) queued) in
    record { more = omega (arith, a.more, b.more); few = omega (arith, a.few, b.few) }

pub spread_longer : (sheet : List ℕ) (c : Cell) (queued : List ℕ) → Longer 4 queued (spread sheet c queued)
unfolding spread cardinal_offsets
spread_longer sheet c queued = at_longer sheet c cardinal_offsets queued

pub seeded_longer : (sheet ps queued : List ℕ) → Longer (4 * length ps) queued (seeded_from sheet ps queued)
unfolding seeded_from
seeded_longer sheet [] queued = record { more = omega arith; few = omega arith }
seeded_longer sheet (p ∷ ps) queued =
    let a = spread_longer sheet (cell_of p) queued in
    let b = seeded_longer sheet ps (spread sheet (cell_of p) queued) in
    record { more = omega (arith, a.more, b.more); few = omega (arith, a.few, b.few) }

-- ---- the queue's places

-- A queue of which `head` cells were visited: its places are those of cells, no place is there twice, and the cells that are left are
-- unlabelled.
pub record Lined (sheet : List ℕ) (head : ℕ) (queued : List ℕ) : Type 0 where
  pub upto : head ≤ length queued
  pub places : (i : ℕ) → i < length queued → get_or queued i 0 < 16384
  pub distinct : (i j : ℕ) → i < j → j < length queued → get_or queued i 0 ≡ get_or queued j 0 → ⊥
  pub waiting : (i : ℕ) → head ≤ i → i < length queued → label_at sheet (cell_of (get_or queued i 0)) ≡ None

pub lined_none : (sheet : List ℕ) → Lined sheet 0 []
lined_none sheet =
    record {
      upto = omega arith;
      places = λ i h. absurd (not-suc-le-zero h);
      distinct = λ i j h k. absurd (not-suc-le-zero k);
      waiting = λ i h k. absurd (not-suc-le-zero k);
    }

-- a place more that was not there, of an unlabelled cell
module _ (sheet : List ℕ) (head : ℕ) (queued : List ℕ) (l : Lined sheet head queued) where
  pub lined_more : (p : ℕ) → p < 16384 → label_at sheet (cell_of p) ≡ None → member p queued ≡ false → Lined sheet head (queued ++ (p ∷ []))
  lined_more p on bare new =
      record {
        upto = omega (arith, l.upto, more_length queued p);
        places = λ i h. at i (ℕ_discrete i (length queued)) h (λ x. x < 16384) on (l.places i);
        distinct = λ i j h k. apart i j h k (ℕ_discrete j (length queued));
        waiting = λ i g h. at i (ℕ_discrete i (length queued)) h (λ x. label_at sheet (cell_of x) ≡ None) bare (l.waiting i g);
      }
    where
      at : (i : ℕ) → Dec (i ≡ length queued) → i < length (queued ++ (p ∷ [])) → (P : ℕ → Type 0) → P p → (i < length queued → P (get_or queued i 0)) → P (get_or (queued ++ (p ∷ [])) i 0)
      at i (yes d) h P x y = rw (d, last_at queued p) x
      at i (no d) h P x y =
          let k : i < length queued = omega (arith, more_length queued p) in
          rw (older_at queued p i k) (y k)

      apart : (i j : ℕ) → i < j → j < length (queued ++ (p ∷ [])) → Dec (j ≡ length queued) → get_or (queued ++ (p ∷ [])) i 0 ≡ get_or (queued ++ (p ∷ [])) j 0 → ⊥
      apart i j h k (yes d) e =
          let m : i < length queued = omega arith in
          not_member p queued new i m (sym (older_at queued p i m) ∙ e ∙ rw (d, last_at queued p))
      apart i j h k (no d) e =
          let n : j < length queued = omega (arith, more_length queued p) in
          let m : i < length queued = omega arith in
          l.distinct i j h n (sym (older_at queued p i m) ∙ e ∙ older_at queued p j n)

unlabelled : (l : Option ℕ) → names_corner l ≡ false → l ≡ None
unfolding names_corner
unlabelled None e = refl
unlabelled (Some k) e = absurd (no_both true refl e)

-- what is wanted: a cell of the sheet, unlabelled, not queued before
pub record Wanted (sheet queued : List ℕ) (c : Cell) : Type 0 where
  pub on : on_sheet c ≡ true
  pub bare : label_at sheet c ≡ None
  pub new : member (place_of c) queued ≡ false

pub is_wanted : (sheet queued : List ℕ) (c : Cell) → wanted sheet queued c ≡ true → Wanted sheet queued c
unfolding wanted
is_wanted sheet queued c e =
    let a = both (on_sheet c) (not (names_corner (label_at sheet c)) && not (member (place_of c) queued)) e in
    let b = both (not (names_corner (label_at sheet c))) (not (member (place_of c) queued)) a.1 in
    record { on = a.0; bare = unlabelled (label_at sheet c) (not-true _ b.0); new = not-true _ b.1 }

pub enqueued_lined : (sheet : List ℕ) (head : ℕ) (c : Cell) (queued : List ℕ) → Lined sheet head queued → Lined sheet head (enqueued sheet c queued)
unfolding enqueued
enqueued_lined sheet head c queued l = go (wanted sheet queued c) refl
  where
    go : (t : Bool) → wanted sheet queued c ≡ t → Lined sheet head (cond t (queued ++ (place_of c ∷ [])) queued)
    go true e =
        let w = is_wanted sheet queued c e in
        let on = subst T (sym w.on) tt in
        lined_more sheet head queued l (place_of c) (place_in c on) (rw (cell_place c on) w.bare) w.new
    go false e = l

pub at_lined : (sheet : List ℕ) (head : ℕ) (c : Cell) (os : List Offset) (queued : List ℕ) → Lined sheet head queued → Lined sheet head (enqueued_at sheet c os queued)
unfolding enqueued_at
at_lined sheet head c [] queued l = l
at_lined sheet head c (o ∷ os) queued l = at_lined sheet head c os (enqueued sheet (moved c o) queued) (enqueued_lined sheet head (moved c o) queued l)

pub spread_lined : (sheet : List ℕ) (head : ℕ) (c : Cell) (queued : List ℕ) → Lined sheet head queued → Lined sheet head (spread sheet c queued)
unfolding spread
spread_lined sheet head c queued l = at_lined sheet head c cardinal_offsets queued l

pub seeded_lined : (sheet : List ℕ) (head : ℕ) (ps queued : List ℕ) → Lined sheet head queued → Lined sheet head (seeded_from sheet ps queued)
unfolding seeded_from
seeded_lined sheet head [] queued l = l
seeded_lined sheet head (p ∷ ps) queued l = seeded_lined sheet head ps (spread sheet (cell_of p) queued) (spread_lined sheet head (cell_of p) queued l)

-- ---- a cell visited

module _ (sheet : List ℕ) (head : ℕ) (queued : List ℕ) (l : Lined sheet head queued) (left : head < length queued) where
  -- its labels stay
  pub lined_same : (after : List ℕ) → SameLabels sheet after → Lined after (head + 1) queued
  lined_same after s =
      record {
        upto = omega arith;
        places = l.places;
        distinct = l.distinct;
        waiting = λ i g h. let p = l.places i h in label_of_place after _ p ∙ s.same_label _ p ∙ sym (label_of_place sheet _ p) ∙ l.waiting i (omega arith) h;
      }

  -- a corner is attached to it
  pub lined_attached : (k : ℕ) → Attaching sheet (cell_of (get_or queued head 0)) k → Lined (attached sheet (cell_of (get_or queued head 0)) k) (head + 1) queued
  lined_attached k a = record { upto = omega arith; places = l.places; distinct = l.distinct; waiting = λ i g h. wait i g h }
    where
      wait : (i : ℕ) → head + 1 ≤ i → i < length queued → label_at (attached sheet (cell_of (get_or queued head 0)) k) (cell_of (get_or queued i 0)) ≡ None
      wait i g h =
          let p = l.places i h in
          let q = l.places head left in
          let other : get_or queued i 0 ≡ place_of (cell_of (get_or queued head 0)) → ⊥ = λ e. l.distinct head i (omega arith) h (sym (e ∙ place_cell _ q)) in
          label_of_place _ _ p ∙ ap label_of (word_else a (get_or queued i 0) other) ∙ sym (label_of_place sheet _ p) ∙ l.waiting i (omega arith) h
