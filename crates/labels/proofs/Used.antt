-- Laws of the used corners: a corner is used exactly if a cell holds it; the array stays tied to the sheet, and each corner
-- at one cell, when a cell is marked and when an unused corner is attached; so there are at most as many labels as corners;
-- the array, a place at a time, and by a walk over the places that hold something. Assumes nothing.
use Rattle.std.specs.Prelude.{Option, Some, None}
use mathlib.Core.Path.{◌≡◌, refl, sym, ap, ◌∙◌}
use mathlib.Core.Bool.{Bool, true, false, cond, not, ◌&&◌, ◌||◌}
use mathlib.Core.List.{List, [], ◌∷◌}
use Prim.Native.Nat.{ℕ, zero, suc, ◌+◌, ◌<◌, ◌≤◌}
use native.Mathlib.Nat.{not-suc-le-zero}
use native.Mathlib.Decide.{ℕ_discrete}
use native.Mathlib.Omega.{arith}
use borrow.Author.Tests.{eq-eqb, ne_eqb, eqb-true, eqb-false, lt-ltb, ltb-true, ltb-false, not-true}
use lib.Dec.{eqb, ltb}
use lib.ListN.{length, get_or, set, length-set, length-append, replicate, length-replicate, get_or-replicate}
use Rattle.std.specs.List.{fold, list_any}
use lib.Seq.{get_or-set_same, get_or-set_other}
use Rattle.sheet.specs.Cells.{OnSheet, place_of}
use Rattle.sheet.specs.Words.{label_of_number, label_of, attached, hole_marked, ambiguous_marked, marks_cleared, empty_sheet}
use Rattle.sheet.specs.Blank.{written_from}
use Rattle.sheet.proofs.Blank.{blank_label}
use Rattle.sheet.proofs.Laws.{place_in}
use Rattle.sheet.proofs.Words.{no_corner_lem, empty_word}
use Rattle.sheet.specs.declared.Cell.{Cell}
use Rattle.labels.specs.Labelled.{passing, any_below, is_labelled, labelled_places, label_count, Attaching, SameLabels}
use Rattle.labels.specs.Used.{names, used_on, UsedAt, Tied, noted, OneCell}
use Rattle.labels.proofs.Written.{behind, written_any}
use Rattle.labels.proofs.Below.{no_both, passing_ext, passing_one_more, both, Passes, any_hit, any_yes, any_none, any_no, any_ext, any_start, any_more}
use Rattle.labels.proofs.Labelled.{labelled_names, hole_keeps, ambiguous_keeps, cleared_keeps, label_before, label_after, word_else}

-- ---- a label that names a corner

pub names_it : (k : ℕ) (l : Option ℕ) → l ≡ Some k → names k l ≡ true
unfolding names
names_it k l e = rw e (eq-eqb k k refl)

pub it_names : (k : ℕ) (l : Option ℕ) → names k l ≡ true → l ≡ Some k
unfolding names
it_names k None e = absurd (no_both false e refl)
it_names k (Some j) e = ap Some (eqb-true j k e)

one_corner : (j k : ℕ) → Some j ≡ Some k → j ≡ k
one_corner j k e = cc

-- ---- the rule: a corner is used exactly if a place, or a cell, holds it

module _ (sheet : List ℕ) (k : ℕ) where
  pub used_yes : used_on sheet k ≡ true → UsedAt sheet k
  unfolding used_on
  used_yes e =
      let p = any_yes (λ q. names k (label_of (get_or sheet q 0))) 16384 e in
      record { place = p.number; below = p.below; holds = it_names k (label_of (get_or sheet p.number 0)) p.passes }

  pub used_there : UsedAt sheet k → used_on sheet k ≡ true
  unfolding used_on
  used_there u = any_hit (λ q. names k (label_of (get_or sheet q 0))) 16384 u.place u.below (names_it k (label_of (get_or sheet u.place 0)) u.holds)

  pub unused : used_on sheet k ≡ false → UsedAt sheet k → ⊥
  unused e u = no_both (used_on sheet k) (used_there u) e

-- ---- changed sheets

pub same_used : (sheet after : List ℕ) → SameLabels sheet after → (k : ℕ) → used_on after k ≡ used_on sheet k
unfolding used_on
same_used sheet after s k =
    any_ext (λ q. names k (label_of (get_or after q 0))) (λ q. names k (label_of (get_or sheet q 0))) 16384 (λ p h. ap (names k) (s.same_label p h))

-- the corner attached is used, and of the others those that were
pub used_attached : {sheet : List ℕ} {c : Cell} {k : ℕ} → Attaching sheet c k → (j : ℕ) → used_on (attached sheet c k) j ≡ (eqb k j || used_on sheet j)
used_attached {sheet} {c} {k} a j = go (ℕ_discrete k j) (used_on sheet j) refl
  where
    after : List ℕ
    after = attached sheet c k

    still : UsedAt sheet j → UsedAt after j
    still u = record { place = u.place; below = u.below; holds = ap label_of (word_else a u.place ne) ∙ u.holds }
      where
        ne : u.place ≡ place_of c → ⊥
        ne e = no_corner_lem j (sym (label_before a) ∙ ap (λ (p : ℕ). label_of (get_or sheet p 0)) (sym e) ∙ u.holds)

    before : (k ≡ j → ⊥) → (u : UsedAt after j) → Dec (u.place ≡ place_of c) → UsedAt sheet j
    before d u (yes e) = absurd (d (one_corner k j (sym (label_after a) ∙ ap (λ (p : ℕ). label_of (get_or after p 0)) (sym e) ∙ u.holds)))
    before d u (no e) = record { place = u.place; below = u.below; holds = ap label_of (sym (word_else a u.place e)) ∙ u.holds }

    none : (k ≡ j → ⊥) → used_on sheet j ≡ false → (t : Bool) → used_on after j ≡ t → t ≡ false
    none d e false f = refl
    none d e true f = absurd (unused sheet j e (let u = used_yes after j f in before d u (ℕ_discrete u.place (place_of c))))

    go : Dec (k ≡ j) → (t : Bool) → used_on sheet j ≡ t → used_on after j ≡ (eqb k j || t)
    go (yes d) t e =
        rw (eq-eqb k j d)
        (used_there after j (record { place = place_of c; below = place_in c a.on; holds = label_after a ∙ ap Some d }))
    go (no d) true e = rw (ne_eqb k j d) (used_there after j (still (used_yes sheet j e)))
    go (no d) false e = rw (ne_eqb k j d) (none d e (used_on after j) refl)

pub used_empty : (k : ℕ) → used_on empty_sheet k ≡ false
unfolding used_on names label_of label_of_number
used_empty k = any_no (λ q. names k (label_of (get_or empty_sheet q 0))) 16384 (λ p h. rw (empty_word p))

-- ---- the array

-- an entry is not set exactly if the corner is not used
pub tied_free : {sheet : List ℕ} {used : List Bool} → Tied sheet used → (k : ℕ) → k < 1024 → not (get_or used k false) ≡ not (used_on sheet k)
tied_free t k h = ap not (t.at k h)

pub tied_same : {sheet after : List ℕ} {used : List Bool} → SameLabels sheet after → Tied sheet used → Tied after used
tied_same {sheet} {after} s t = record { size = t.size; at = λ k h. t.at k h ∙ sym (same_used sheet after s k) }

-- a corner attached, and its entry set
pub tied_attached : {sheet : List ℕ} {used : List Bool} {c : Cell} {k : ℕ} → Attaching sheet c k → k < 1024 → Tied sheet used → Tied (attached sheet c k) (set used k true)
tied_attached {sheet} {used} {c} {k} a small t = record { size = length-set used k true ∙ t.size; at = λ j h. rw (used_attached a j) (go j h (ℕ_discrete k j)) }
  where
    go : (j : ℕ) → j < 1024 → Dec (k ≡ j) → get_or (set used k true) j false ≡ (eqb k j || used_on sheet j)
    go j h (yes d) = rw (eq-eqb k j d, ← d) (get_or-set_same used k true false (omega (arith, t.size)))
    go j h (no d) = rw (ne_eqb k j d) (get_or-set_other used k j true false (λ e. d (sym e)) ∙ t.at j h)

-- ---- one cell a corner

pub one_same : {sheet after : List ℕ} → SameLabels sheet after → OneCell sheet → OneCell after
one_same s o = record { one_place = λ p q k g h a b. o.one_place p q k g h (sym (s.same_label p g) ∙ a) (sym (s.same_label q h) ∙ b) }

-- an unused corner attached
pub one_attached : {sheet : List ℕ} {c : Cell} {k : ℕ} → Attaching sheet c k → used_on sheet k ≡ false → OneCell sheet → OneCell (attached sheet c k)
one_attached {sheet} {c} {k} a free o = record { one_place = λ p q j g h x y. go p q j g h x y (ℕ_discrete p (place_of c)) (ℕ_discrete q (place_of c)) }
  where
    after : List ℕ
    after = attached sheet c k

    -- a place elsewhere does not hold the new corner
    clash : (p q j : ℕ) → p ≡ place_of c → (q ≡ place_of c → ⊥) → q < 16384 → label_of (get_or after p 0) ≡ Some j → label_of (get_or after q 0) ≡ Some j → ⊥
    clash p q j e f h x y =
        let d : k ≡ j = one_corner k j (sym (label_after a) ∙ ap (λ (r : ℕ). label_of (get_or after r 0)) (sym e) ∙ x) in
        unused sheet k free (record { place = q; below = h; holds = ap label_of (sym (word_else a q f)) ∙ y ∙ ap Some (sym d) })

    go : (p q j : ℕ) → p < 16384 → q < 16384 → label_of (get_or after p 0) ≡ Some j → label_of (get_or after q 0) ≡ Some j → Dec (p ≡ place_of c) → Dec (q ≡ place_of c) → p ≡ q
    go p q j g h x y (yes d) (yes e) = d ∙ sym e
    go p q j g h x y (yes d) (no e) = absurd (clash p q j d e h x y)
    go p q j g h x y (no d) (yes e) = absurd (clash q p j e d g y x)
    go p q j g h x y (no d) (no e) = o.one_place p q j g h (ap label_of (sym (word_else a p d)) ∙ x) (ap label_of (sym (word_else a q e)) ∙ y)

-- ---- the marks

module _ (sheet : List ℕ) (c : Cell) (long : 16384 ≤ length sheet) (on : OnSheet c) where
  pub tied_hole : {used : List Bool} → Tied sheet used → Tied (hole_marked sheet c) used
  tied_hole t = tied_same (hole_keeps sheet c long on) t

  pub tied_ambiguous : {used : List Bool} → Tied sheet used → Tied (ambiguous_marked sheet c) used
  tied_ambiguous t = tied_same (ambiguous_keeps sheet c long on) t

  pub tied_cleared : {used : List Bool} → Tied sheet used → Tied (marks_cleared sheet c) used
  tied_cleared t = tied_same (cleared_keeps sheet c long on) t

  pub one_cleared : OneCell sheet → OneCell (marks_cleared sheet c)
  one_cleared o = one_same (cleared_keeps sheet c long on) o

-- ---- at most as many labels as corners

none_passes : (f : ℕ → Bool) (n : ℕ) → ((p : ℕ) → p < n → f p ≡ false) → length (passing f n) ≡ 0
unfolding passing
none_passes f n h = ap length (passing_ext f (λ p. false) n h) ∙ none n
  where
    none : (m : ℕ) → length (passing (λ p. false) m) ≡ 0
    none zero = refl
    none (suc m) = rw length-append (omega (arith, none m))

-- numbers below n that pass, each with a value of its own below m, are at most m
few_values : (m n : ℕ) (f : ℕ → Bool) (value : ℕ → ℕ) → ((p : ℕ) → p < n → f p ≡ true → value p < m)
    → ((p q : ℕ) → p < n → q < n → f p ≡ true → f q ≡ true → value p ≡ value q → p ≡ q) → length (passing f n) ≤ m
few_values zero n f value small own = omega (arith, none_passes f n (λ p h. go p h (f p) refl))
  where
    go : (p : ℕ) → p < n → (t : Bool) → f p ≡ t → t ≡ false
    go p h false e = refl
    go p h true e = absurd (not-suc-le-zero (small p h e))
few_values (suc m) n f value small own = go (few_values m n others value small' own') (any_below n last) refl
  where
    -- those whose value is not m, and the one whose value it is
    others : ℕ → Bool
    others p = f p && not (eqb (value p) m)

    last : ℕ → Bool
    last p = f p && eqb (value p) m

    small' : (p : ℕ) → p < n → others p ≡ true → value p < m
    small' p h e = let a = both (f p) (not (eqb (value p) m)) e in omega (arith, small p h a.0, eqb-false (value p) m (not-true (eqb (value p) m) a.1))

    own' : (p q : ℕ) → p < n → q < n → others p ≡ true → others q ≡ true → value p ≡ value q → p ≡ q
    own' p q h k a b = own p q h k (both (f p) (not (eqb (value p) m)) a).0 (both (f q) (not (eqb (value q) m)) b).0

    go : length (passing others n) ≤ m → (t : Bool) → any_below n last ≡ t → length (passing f n) ≤ suc m
    go w false e = rw (passing_ext f others n same) (omega arith)
      where
        same : (p : ℕ) → p < n → f p ≡ others p
        same p h = at (f p) (eqb (value p) m) (any_none last n p e h)
          where
            at : (t u : Bool) → (t && u) ≡ false → t ≡ (t && not u)
            at false u k = refl
            at true false k = refl
            at true true k = absurd (no_both true refl k)
    go w true e = rw (passing_one_more others f n x.number x.below gone there.0 same) (omega arith)
      where
        x : Passes last n
        x = any_yes last n e

        there : (f x.number ≡ true) × (eqb (value x.number) m ≡ true)
        there = both (f x.number) (eqb (value x.number) m) x.passes

        gone : others x.number ≡ false
        gone = rw (there.0, there.1)

        same : (q : ℕ) → q < n → (q ≡ x.number → ⊥) → f q ≡ others q
        same q h ne = at (f q) refl
          where
            at : (t : Bool) → f q ≡ t → t ≡ (t && not (eqb (value q) m))
            at false k = refl
            at true k =
                let d : eqb (value q) m ≡ false = ne_eqb (value q) m (λ z. ne (own q x.number h x.below k there.0 (z ∙ sym (eqb-true (value x.number) m there.1)))) in
                rw d

corner_number : Option ℕ → ℕ
corner_number None = 0
corner_number (Some k) = k

-- where each label is below n and no corner is at two cells, there are at most n labels
pub count_bounded : (sheet : List ℕ) (n : ℕ) → ((p k : ℕ) → p < 16384 → label_of (get_or sheet p 0) ≡ Some k → k < n) → OneCell sheet → label_count sheet ≤ n
unfolding label_count labelled_places corner_number
count_bounded sheet n known o = few_values n 16384 (λ p. is_labelled (get_or sheet p 0)) value small own
  where
    value : ℕ → ℕ
    value p = corner_number (label_of (get_or sheet p 0))

    small : (p : ℕ) → p < 16384 → is_labelled (get_or sheet p 0) ≡ true → value p < n
    small p h e = let l = labelled_names (get_or sheet p 0) e in rw l.named (known p l.corner h l.named)

    own : (p q : ℕ) → p < 16384 → q < 16384 → is_labelled (get_or sheet p 0) ≡ true → is_labelled (get_or sheet q 0) ≡ true → value p ≡ value q → p ≡ q
    own p q g h a b e =
        let l = labelled_names (get_or sheet p 0) a in
        let r = labelled_names (get_or sheet q 0) b in
        let d : l.corner ≡ r.corner = sym (ap corner_number l.named) ∙ e ∙ ap corner_number r.named in
        o.one_place p q l.corner g h l.named (r.named ∙ ap Some (sym d))

-- ---- the array, a place at a time

-- what is noted, by the label
module _ (used : List Bool) (l : Option ℕ) where
  pub noted_none : l ≡ None → used ≡ noted used l
  unfolding noted
  noted_none e = rw e

  module _ (k : ℕ) (e : l ≡ Some k) where
    pub noted_entry : k < 1024 → set used k true ≡ noted used l
    unfolding noted
    noted_entry h = rw (e, lt-ltb k 1024 h)

-- an array whose entries say which corners pass a test, with one label more noted
record Marked (used : List Bool) (t : ℕ → Bool) : Type 0 where
  size : length used ≡ 1024
  at : (k : ℕ) → k < 1024 → get_or used k false ≡ t k

marked_more : (used : List Bool) (t : ℕ → Bool) → Marked used t → (l : Option ℕ) → Marked (noted used l) (λ k. names k l || t k)
unfolding noted names
marked_more used t m None = record { size = m.size; at = m.at }
marked_more used t m (Some k) = go (ltb k 1024) refl
  where
    one : k < 1024 → (j : ℕ) → j < 1024 → Dec (k ≡ j) → get_or (set used k true) j false ≡ (eqb k j || t j)
    one h j l (yes d) = rw (eq-eqb k j d, ← d) (get_or-set_same used k true false (omega (arith, m.size)))
    one h j l (no d) = rw (ne_eqb k j d) (get_or-set_other used k j true false (λ z. d (sym z)) ∙ m.at j l)

    other : 1024 ≤ k → (j : ℕ) → j < 1024 → get_or used j false ≡ (eqb k j || t j)
    other h j l = rw (ne_eqb k j (λ z. omega arith)) (m.at j l)

    go : (b : Bool) → ltb k 1024 ≡ b → Marked (cond b (set used k true) used) (λ j. eqb k j || t j)
    go true f = record { size = length-set used k true ∙ m.size; at = λ j l. one (ltb-true k 1024 f) j l (ℕ_discrete k j) }
    go false f = record { size = m.size; at = other (ltb-false k 1024 f) }

-- the array is tied to the first p places
pub record Marking (sheet : List ℕ) (used : List Bool) (p : ℕ) : Type 0 where
  pub upto : p ≤ 16384
  pub size : length used ≡ 1024
  pub so_far : (k : ℕ) → k < 1024 → get_or used k false ≡ any_below p (λ q. names k (label_of (get_or sheet q 0)))

pub marking_start : (sheet : List ℕ) (used : List Bool) → length used ≡ 1024 → ((k : ℕ) → k < 1024 → get_or used k false ≡ false) → Marking sheet used 0
marking_start sheet used l h = record { upto = omega arith; size = l; so_far = λ k m. h k m ∙ sym (any_start (λ q. names k (label_of (get_or sheet q 0)))) }

pub marking_more : (sheet : List ℕ) (used : List Bool) (p : ℕ) → Marking sheet used p → (after : List Bool) → p < 16384 → after ≡ noted used (label_of (get_or sheet p 0)) → Marking sheet after (p + 1)
marking_more sheet used p g after h e =
    let m = marked_more used (λ k. any_below p (λ q. names k (label_of (get_or sheet q 0)))) (record { size = g.size; at = g.so_far }) (label_of (get_or sheet p 0)) in
    record {
      upto = omega arith;
      size = ap length e ∙ m.size;
      so_far = λ j l. ap (λ (u : List Bool). get_or u j false) e ∙ rw (any_more (λ q. names j (label_of (get_or sheet q 0))) p) (m.at j l);
    }

-- ---- the array, by a walk over the places that hold something

-- the array with the corner of one word more noted
abbrev pub word_noted : List Bool → ℕ × ℕ → List Bool
word_noted used e = noted used (label_of e.1)

marked_all : (l : List (ℕ × ℕ)) (used : List Bool) (t : ℕ → Bool) → Marked used t → Marked (fold word_noted used l) (λ k. list_any (λ e. names k (label_of e.1)) l || t k)
marked_all [] used t m = m
marked_all (e ∷ l) used t m =
    let w = marked_all l (word_noted used e) (λ k. names k (label_of e.1) || t k) (marked_more used t m (label_of e.1)) in
    record { size = w.size; at = λ k h. w.at k h ∙ behind (list_any (λ e. names k (label_of e.1)) l) (names k (label_of e.1)) (t k) }

-- what is left to note is nothing
pub noted_all : (sheet : List ℕ) (used : List Bool) (rest : List (ℕ × ℕ)) → rest ≡ [] → fold word_noted used rest ≡ fold word_noted (replicate 1024 false) (written_from sheet 0) → Tied sheet used
unfolding used_on names
noted_all sheet used rest e f =
    let m = marked_all (written_from sheet 0) (replicate 1024 false) (λ k. false) (record { size = length-replicate {A = Bool} 1024 false; at = λ k h. get_or-replicate {A = Bool} 1024 k false false h }) in
    let g : used ≡ fold word_noted (replicate 1024 false) (written_from sheet 0) = sym (ap (fold word_noted used) e) ∙ f in
    rw g
    (record {
      size = m.size;
      at = λ k h. m.at k h ∙ none (list_any (λ e. names k (label_of e.1)) (written_from sheet 0)) ∙ walked k;
    })
  where
    none : (t : Bool) → (t || false) ≡ t
    none true = refl
    none false = refl

    walked : (k : ℕ) → list_any (λ e. names k (label_of e.1)) (written_from sheet 0) ≡ any_below 16384 (λ p. names k (label_of (get_or sheet p 0)))
    walked k = written_any sheet (λ e. names k (label_of e.1)) (λ p. ap (names k) (blank_label {w = 0} refl))
