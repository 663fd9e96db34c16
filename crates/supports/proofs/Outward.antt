-- The four nearest places, looked for both ways from any place: a walk back that keeps, and what may be left out since it is too many lines away.
-- Assumes nothing.
use mathlib.Core.Path.{◌≡◌, refl, sym, ap, ◌∙◌, subst}
use mathlib.Core.Bool.{Bool, true, false, not, cond}
use mathlib.Core.List.{List, [], ◌∷◌, ◌++◌}
use Prim.Native.Nat.{ℕ, zero, suc, ◌+◌, ◌-◌, ◌/◌, ◌<◌, ◌≤◌}
use native.Mathlib.Numerals.{add-one}
use native.Mathlib.Omega.{arith}
use borrow.Author.Tests.{le-leb, lt-leb, le-ltb, leb-true, ltb-true, ltb-false}
use lib.Dec.{ltb, leb}
use lib.IntN.{ℤ, pos, neg_ℤ, ◌+ℤ◌, ◌-ℤ◌, nat_abs, +ℤ_assoc, +ℤ_comm, -ℤ-+ℤ_cancel, neg_ℤ-+ℤ, neg_ℤ-neg_ℤ}
use lib.ListN.{length, get_or, take, drop, length-append}
use lib.Seq.{take-suc, get_or-take, length-take-le, get_or-append_seam}
use Rattle.std.proofs.Common.{append_assoc, append-nil, add_assoc}
use Rattle.std.proofs.lemmas.List.{take_all, get_or-append-add, get_or_append_left, get_or-drop, length-drop}
use Rattle.std.proofs.lemmas.List.Elements.{All-get_or, All-tail}
use Rattle.sheet.specs.Cells.{OnSheet, place_of, cell_of, line_of}
use Rattle.sheet.specs.declared.Cell.{Cell}
use Rattle.sheet.proofs.Laws.{line_j, cell_on_lem, place_cell, abs_add, abs_neg}
use Rattle.passes.specs.Local.{reach_of, nearer, placed, by_reach}
use Rattle.supports.specs.Nearest.{support_at, nothing_kept, before_those, ahead_of_ties, MoreKept, EarlierKept, Along, filled_up, Keeping}
use Rattle.supports.specs.declared.Support.{Support}
use Rattle.supports.proofs.Nearest.{AllBelow, nth, earlier_cells, nearer_earlier, reach_small, before_take, farther_splits, as_far_splits, kept_none, keeping_none, keeping_last}

-- ---- a place is at least as far as its line

lines_apart : (x y : ℤ) → line_of x ≤ nat_abs (x -ℤ y) + line_of y
lines_apart x y =
    subst (λ (z : ℤ). nat_abs z ≤ nat_abs (x -ℤ y) + line_of y)
    (sym (+ℤ_assoc (x -ℤ y) y (pos 64)) ∙ ap (λ (z : ℤ). z +ℤ pos 64) (-ℤ-+ℤ_cancel x y))
    (abs_add (x -ℤ y) (y +ℤ pos 64))

abs_turned : (x y : ℤ) → nat_abs (y -ℤ x) ≡ nat_abs (x -ℤ y)
abs_turned x y =
    ap nat_abs (sym (neg_ℤ-+ℤ x (neg_ℤ y) ∙ ap (λ (z : ℤ). neg_ℤ x +ℤ z) (neg_ℤ-neg_ℤ y) ∙ +ℤ_comm (neg_ℤ x) y)) ∙ abs_neg (x -ℤ y)

line_of_place : (c : Cell) → OnSheet c → place_of c / 128 ≡ line_of c.i
unfolding place_of
line_of_place c h = let b = line_j c h in omega arith

module _ (c : Cell) (on : OnSheet c) (p : ℕ) (h : p < 16384) where
  here : p / 128 ≡ line_of (cell_of p).i
  here = ap (λ (q : ℕ). q / 128) (sym (place_cell p h)) ∙ line_of_place (cell_of p) (cell_on_lem p h)

  -- a place before the cell's line
  pub line_before : place_of c / 128 ≤ p / 128 + reach_of c p
  line_before =
      omega (arith, here, line_of_place c on, lines_apart c.i (cell_of p).i, abs_turned (cell_of p).i c.i)

  -- and one behind it
  pub line_behind : p / 128 ≤ place_of c / 128 + reach_of c p
  line_behind = omega (arith, here, line_of_place c on, lines_apart (cell_of p).i c.i)

-- ---- one more place, before all others

-- all places of a list are behind p, on the sheet
data Behind (p : ℕ) : List ℕ → Type 0 where
  none : Behind p []
  one : {q : ℕ} {qs : List ℕ} → p < q → q < 16384 → Behind p qs → Behind p (q ∷ qs)

behind_placed : (p : ℕ) (c : Cell) (q : ℕ) (l : List ℕ) → p < q → q < 16384 → Behind p l → Behind p (placed c q l)
unfolding placed
behind_placed p c q [] g h none = one g h none
behind_placed p c q (r ∷ rs) g h (one k m u) = go (nearer c q r) (behind_placed p c q rs g h u)
  where
    go : (t : Bool) → Behind p (placed c q rs) → Behind p (cond t (q ∷ r ∷ rs) (r ∷ placed c q rs))
    go true w = one g h (one k m u)
    go false w = one k m w

behind_by_reach : (p : ℕ) (c : Cell) (l : List ℕ) → Behind p l → Behind p (by_reach c l)
unfolding by_reach
behind_by_reach p c [] none = none
behind_by_reach p c (q ∷ qs) (one g h u) = behind_placed p c q (by_reach c qs) g h (behind_by_reach p c qs u)

not_below : (a b : ℕ) → not (ltb b a) ≡ leb a b
not_below a b = go (ltb b a) refl
  where
    go : (t : Bool) → ltb b a ≡ t → not t ≡ leb a b
    go true e = sym (lt-leb a b (ltb-true b a e))
    go false e = sym (le-leb a b (ltb-false b a e))

ties_filled : (c : Cell) (p : ℕ) → reach_of c p < 1000 → (l : List ℕ) → Behind p l → ahead_of_ties (support_at c p) (filled_up c l) ≡ filled_up c (placed c p l)
unfolding before_those placed
ties_filled c p h [] none = rw (le-leb (reach_of c p) 1000 (omega arith))
ties_filled c p h (q ∷ qs) (one k m u) = rw (nearer_earlier c p q (earlier_cells p q k m) ∙ not_below (reach_of c p) (reach_of c q)) (go (leb (reach_of c p) (reach_of c q)) (ties_filled c p h qs u))
  where
    go : (t : Bool) → ahead_of_ties (support_at c p) (filled_up c qs) ≡ filled_up c (placed c p qs) → cond t (support_at c p ∷ support_at c q ∷ filled_up c qs) (support_at c q ∷ ahead_of_ties (support_at c p) (filled_up c qs)) ≡ filled_up c (cond t (p ∷ q ∷ qs) (q ∷ placed c p qs))
    go true w = refl
    go false w = ap (λ (l : List Support). support_at c q ∷ l) w

behind_from : (p : ℕ) (l : List ℕ) → ((a : ℕ) → a < length l → (p < get_or l a 0) × (get_or l a 0 < 16384)) → Behind p l
behind_from p [] h = none
behind_from p (q ∷ qs) h = let f = h 0 (omega arith) in one f.0 f.1 (behind_from p qs (λ a l. h (suc a) (omega arith)))

keeping_first : {c : Cell} {kept next : List Support} {ps : List ℕ} (p : ℕ) → OnSheet c → p < 16384 → Behind p ps → Keeping c kept ps → EarlierKept kept (support_at c p) next → Keeping c next (p ∷ ps)
unfolding by_reach
keeping_first {c} {kept} {next} {ps} p on h b g w =
    record {
      kept_are =
          w.kept_are ∙ ap (λ (l : List Support). take 4 (ahead_of_ties (support_at c p) l)) g.kept_are
          ∙ before_take (leb (reach_of c p)) 4 (support_at c p) (filled_up c (by_reach c ps))
          ∙ ap (take 4) (ties_filled c p (reach_small c p on h) (by_reach c ps) (behind_by_reach p c ps b));
      in_order = w.in_order;
    }

-- ---- places along the sheet

along_tail : {c : Cell} {p : ℕ} {ps : List ℕ} → Along (p ∷ ps) c → Along ps c
along_tail {p = p} {ps} a =
    record {
      rising = record { rises = λ m n l h. a.rising.rises (suc m) (suc n) (omega arith) (omega arith) };
      below = All-tail (λ (q : ℕ). q < 16384) p ps a.below;
      on = a.on;
    }

-- one of some places, and those before it and behind it
module _ {c : Cell} (rest : List ℕ) (p : ℕ) (seen : List ℕ) (along : Along (rest ++ p ∷ seen) c) where
  whole_long : length (rest ++ p ∷ seen) ≡ length rest + suc (length seen)
  whole_long = length-append rest (p ∷ seen)

  pub one_below : p < 16384
  one_below =
      let h : length rest < length (rest ++ p ∷ seen) = omega (arith, whole_long) in
      subst (λ (q : ℕ). q < 16384) (get_or-append_seam rest p seen 0) (All-get_or (λ (q : ℕ). q < 16384) (rest ++ p ∷ seen) (length rest) 0 h along.below)

  one_behind : Behind p seen
  one_behind =
      behind_from p seen
      (λ a l.
      let h : length rest + suc a < length (rest ++ p ∷ seen) = omega (arith, whole_long) in
      let at : get_or (rest ++ p ∷ seen) (length rest + suc a) 0 ≡ get_or seen a 0 = get_or-append-add rest (p ∷ seen) (suc a) 0 in (
        rw (get_or-append_seam rest p seen 0, at) at (along.rising.rises (length rest) (length rest + suc a) (omega arith) h),
        rw at at (All-get_or (λ (q : ℕ). q < 16384) (rest ++ p ∷ seen) (length rest + suc a) 0 h along.below),
      ))

  one_before : (a : ℕ) → a < length rest → get_or rest a 0 < p
  one_before a l =
      rw (get_or_append_left rest (p ∷ seen) 0 a l, get_or-append_seam rest p seen 0) at
      (along.rising.rises a (length rest) l (omega (arith, whole_long)))

  one_in : (a : ℕ) → a < length rest → get_or rest a 0 < 16384
  one_in a l = let h = one_before a l in let k = one_below in omega arith

-- ---- the walk back: of the places behind the rest the nearest four are kept

pub record Backing (places rest : List ℕ) (c : Cell) (kept : List Support) : Type 0 where
  pub seen : List ℕ
  pub parts : places ≡ rest ++ seen
  pub keeping : Keeping c kept seen

pub backing_start : {places rest : List ℕ} {c : Cell} → rest ≡ places → Backing places rest c nothing_kept
backing_start {places} {c = c} e = record { seen = []; parts = sym (ap (λ (l : List ℕ). l ++ []) e ∙ append-nil places); keeping = keeping_none c }

module _ {places rest : List ℕ} {c : Cell} {kept : List Support} (along : Along places c) (g : Backing places rest c kept) (rest' : List ℕ) (p : ℕ) (last : rest ≡ rest' ++ (p ∷ [])) where
  parted : places ≡ rest' ++ p ∷ g.seen
  parted = g.parts ∙ ap (λ (l : List ℕ). l ++ g.seen) last ∙ append_assoc rest' (p ∷ []) g.seen

  along' : Along (rest' ++ p ∷ g.seen) c
  along' = subst (λ (l : List ℕ). Along l c) parted along

  pub back_below : {q : ℕ} → q ≡ p → q < 16384
  back_below e = rw e (one_below rest' p g.seen along')

  pub backing_more : {q : ℕ} {new : Support} {next : List Support} → q ≡ p → new ≡ support_at c q → EarlierKept kept new next → Backing places rest' c next
  backing_more {next = next} e n w =
      record {
        seen = p ∷ g.seen;
        parts = parted;
        keeping =
            keeping_first p along.on (one_below rest' p g.seen along') (one_behind rest' p g.seen along') g.keeping
            (subst (λ (x : Support). EarlierKept kept x next) (n ∙ ap (support_at c) e) w);
      }

-- places that are all too far
skip_back : {c : Cell} {kept : List Support} (rest seen : List ℕ) → Along (rest ++ seen) c → Keeping c kept seen → ((a : ℕ) → a < length rest → (nth kept 3).reach < reach_of c (get_or rest a 0)) → Keeping c kept (rest ++ seen)
skip_back [] seen along g far = g
skip_back {c} (p ∷ ps) seen along g far =
    keeping_first p along.on (one_below [] p (ps ++ seen) along) (one_behind [] p (ps ++ seen) along)
    (skip_back ps seen (along_tail along) g (λ a l. far (suc a) (omega arith)))
    (kept_none (support_at c p) (as_far_splits (reach_of c p)) g.in_order (lt-leb _ _ (far 0 (omega arith))))

-- the place is too many lines before the cell's, and so are all before it
module _ {places rest : List ℕ} {c : Cell} {kept : List Support} (along : Along places c) (g : Backing places rest c kept) (rest' : List ℕ) (p : ℕ) (last : rest ≡ rest' ++ (p ∷ [])) where
  pub backing_stop : {q row : ℕ} {b : Bool} → q ≡ p → row ≡ place_of c / 128 → b ≡ ltb (q / 128 + (nth kept 3).reach) row → b ≡ true → Keeping c kept places
  backing_stop {q} {row} i f d b =
      subst (Keeping c kept) (sym (g.parts ∙ ap (λ (l : List ℕ). l ++ g.seen) last))
      (skip_back (rest' ++ p ∷ []) g.seen (subst (λ (l : List ℕ). Along l c) (g.parts ∙ ap (λ (l : List ℕ). l ++ g.seen) last) along) g.keeping
      (λ a l.
      let h : a ≤ length rest' = omega (arith, length-append rest' (p ∷ []), l) in
      far a h (ltb a (length rest')) refl))
    where
      t : ltb (p / 128 + (nth kept 3).reach) row ≡ true
      t = ap (λ (m : ℕ). ltb (m / 128 + (nth kept 3).reach) row) (sym i) ∙ sym d ∙ b

      so : Along (rest' ++ p ∷ g.seen) c
      so = along' along g rest' p last

      too_far : (q : ℕ) → q ≤ p → q < 16384 → (nth kept 3).reach < reach_of c q
      too_far q l k = omega (arith, f, ltb-true (p / 128 + (nth kept 3).reach) row t, line_before c along.on q k)

      far : (a : ℕ) → a ≤ length rest' → (t : Bool) → ltb a (length rest') ≡ t → (nth kept 3).reach < reach_of c (get_or (rest' ++ p ∷ []) a 0)
      far a h true e =
          let k = ltb-true a (length rest') e in
          rw (get_or_append_left rest' (p ∷ []) 0 a k) (too_far (get_or rest' a 0) (let m = one_before rest' p g.seen so a k in omega arith) (one_in rest' p g.seen so a k))
      far a h false e =
          let k : a ≡ length rest' = omega (arith, ltb-false a (length rest') e) in
          rw (k, get_or-append_seam rest' p [] 0) (too_far p (omega arith) (one_below rest' p g.seen so))

pub backing_end : {places rest : List ℕ} {c : Cell} {kept : List Support} → Backing places rest c kept → length rest ≡ 0 → Keeping c kept places
backing_end {rest = []} {c = c} {kept = kept} g e = subst (Keeping c kept) (sym g.parts) g.keeping
backing_end {rest = p ∷ ps} g e = absurd (omega arith)

-- ---- the walk on: after the first k places the nearest four of these are kept

module _ {places : List ℕ} {c : Cell} (along : Along places c) where
  pub keeping_more : {kept next : List Support} (k : ℕ) → k < length places → Keeping c kept (take k places) → MoreKept kept (support_at c (get_or places k 0)) next → Keeping c next (take (k + 1) places)
  keeping_more {next = next} k h g w =
      let p = get_or places k 0 in
      let one : take (k + 1) places ≡ take k places ++ (p ∷ []) = rw add-one (take-suc places k 0 h) in
      let long = length-take-le k places (omega arith) in
      let all : AllBelow p (take k places) = record { below = λ a l. let m : a < k = omega (arith, long) in rw (get_or-take k places a 0 m) (along.rising.rises a k m h) } in
      subst (Keeping c next) (sym one) (keeping_last p along.on (All-get_or (λ (q : ℕ). q < 16384) places k 0 h along.below) all g w)

  -- the rest are all too far
  skip_on : {kept : List Support} (n k : ℕ) → k + n ≡ length places → Keeping c kept (take k places) → ((a : ℕ) → k ≤ a → a < length places → (nth kept 3).reach ≤ reach_of c (get_or places a 0)) → Keeping c kept places
  skip_on {kept} zero k e g far = subst (Keeping c kept) (take_all k places (omega arith)) g
  skip_on {kept} (suc n) k e g far =
      skip_on n (k + 1) (omega arith)
      (keeping_more k (omega arith) g (kept_none (support_at c (get_or places k 0)) (farther_splits (reach_of c (get_or places k 0))) g.in_order (le-ltb _ _ (far k (omega arith) (omega arith)))))
      (λ a l h. far a (omega arith) h)

  pub keeping_stop : {kept : List Support} {row : ℕ} (k : ℕ) → k < length places → Keeping c kept (take k places) → row ≡ place_of c / 128 → leb (row + (nth kept 3).reach) (get_or places k 0 / 128) ≡ true → Keeping c kept places
  keeping_stop {kept} {row} k h g f t =
      skip_on (length places - k) k (omega arith) g
      (λ a l m.
      omega (arith, f, leb-true (row + (nth kept 3).reach) (get_or places k 0 / 128) t, line_behind c along.on (get_or places a 0) (All-get_or (λ (q : ℕ). q < 16384) places a 0 m along.below), after_first a l m))
    where
      after_first : (a : ℕ) → k ≤ a → a < length places → get_or places k 0 ≤ get_or places a 0
      after_first a l m = go (ltb k a) refl
        where
          go : (t : Bool) → ltb k a ≡ t → get_or places k 0 ≤ get_or places a 0
          go true e = let r = along.rising.rises k a (ltb-true k a e) m in omega arith
          go false e =
              let s : k ≡ a = omega (arith, ltb-false k a e) in
              subst (λ (b : ℕ). get_or places k 0 ≤ get_or places b 0) s (omega arith)

-- the same by a place of the part from one on
module _ {places part : List ℕ} {c : Cell} (along : Along places c) {kept : List Support} (start : ℕ) (parted : part ≡ drop start places) (i : ℕ) (g : Keeping c kept (take (start + i) places)) where
  part_long : length part ≡ length places - start
  part_long = ap length parted ∙ length-drop start places

  module _ (h : i < length part) {q : ℕ} (e : q ≡ get_or part i 0) where
    inside : start + i < length places
    inside = omega (arith, part_long)

    at : q ≡ get_or places (start + i) 0
    at = e ∙ ap (λ (l : List ℕ). get_or l i 0) parted ∙ get_or-drop start places i 0

    pub onward_more : {new : Support} {next : List Support} → new ≡ support_at c q → MoreKept kept new next → Keeping c next (take (start + (i + 1)) places)
    onward_more {next = next} n w =
        subst (λ (m : ℕ). Keeping c next (take m places)) (add_assoc start i 1)
        (keeping_more along (start + i) inside g (subst (λ (x : Support). MoreKept kept x next) (n ∙ ap (support_at c) at) w))

    pub onward_stop : {row : ℕ} {b : Bool} → row ≡ place_of c / 128 → b ≡ leb (row + (nth kept 3).reach) (q / 128) → b ≡ true → Keeping c kept places
    onward_stop {row} f d b = keeping_stop along (start + i) inside g f (ap (λ (m : ℕ). leb (row + (nth kept 3).reach) (m / 128)) (sym at) ∙ sym d ∙ b)

  pub onward_end : length part ≤ i → Keeping c kept places
  onward_end h = subst (Keeping c kept) (take_all (start + i) places (omega (arith, part_long))) g
