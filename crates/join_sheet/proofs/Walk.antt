-- Laws for the code of the join: a walk over the second set, where the sheet has a corner, what a label asks for, what is attached. Assumes
-- nothing.
use Rattle.std.specs.Prelude.{Option, Some, None, Result, Ok, Err}
use mathlib.Core.Path.{◌≡◌, refl, sym, ap, ◌∙◌, subst}
use mathlib.Core.Bool.{Bool, true, false, cond, not, ◌&&◌}
use mathlib.Core.List.{List, [], ◌∷◌, map}
use Prim.Native.Nat.{ℕ, zero, suc, ◌+◌, ◌<◌, ◌≤◌}
use native.Mathlib.Numerals.{add-one}
use native.Mathlib.Omega.{arith}
use borrow.Author.Tests.{eqb-true}
use lib.Dec.{T, eqb}
use lib.ListN.{length, get_or, drop}
use denote.Ref.{Bor}
use Rattle.std.specs.List.{list_all, find, All, AllWithin, HoldsAt}
use Rattle.std.specs.Option.{option_map, IsSomeAnd, IfSome}
use Rattle.std.specs.Slice.Iter.{iter_rest, iter_steps}
use Rattle.std.specs.Iterator.Runs.{Run, ItemsMapTo, AllItems, AllItemsBelow}
use Rattle.std.proofs.iter.runs.Sources.{iter_runs}
use Rattle.std.proofs.lemmas.List.Elements.{All-nil, All-cons, All-head, All-tail, All-weaker}
use Rattle.sizes.specs.Sizes.{corner_limit}
use Rattle.sheet.specs.Cells.{on_sheet, OnSheet, cell_of, moved, difference_of, Within, NearSheet}
use Rattle.sheet.specs.Words.{label_of, attached}
use Rattle.sheet.specs.Blank.{written_in, written_from}
use Rattle.sheet.specs.declared.Cell.{Cell}
use Rattle.sheet.specs.declared.Offset.{Offset}
use Rattle.sheet.proofs.Laws.{cell_on_lem, line_i, line_j, abs_sub, on_near}
use Rattle.sheet.proofs.Blank.{blank_label}
use Rattle.labels.specs.Used.{names}
use Rattle.labels.proofs.Below.{no_both, both}
use Rattle.refusal.specs.declared.Refusal.{Refusal}
use Rattle.join.specs.declared.Unjoinable.{Unjoinable}
use Rattle.join.specs.Rule.{Verdict, Placed, shifted_by}
use Rattle.join.specs.Join.{every, kept, asks, asked, tested, told, is_found, new_by}
use Rattle.join.specs.Sheets.{labelled}
use Rattle.join.specs.Refused.{refusal_of}
use Rattle.join_sheet.specs.Held.{held_at, held_labels, or_at, found_below, holds_at, cell_on, agrees_on, new_put, new_held, outcome, outcome_of, verdict_on, join_on, LabelHeld, HeldSecond, Unused, HeldSets, WriteAsked}
use Rattle.join_sheet.specs.declared.SecondLabel.{SecondLabel}
use Rattle.join_sheet.proofs.Held.{found_used, cell_found_on}

-- ---- a walk over the second set

-- what is left of a list begins with its next element
rest_one : {A : Type 0} (l : List A) (i : ℕ) (d : A) → i < length l → drop i l ≡ get_or l i d ∷ drop (suc i) l
rest_one [] i d h = absurd (omega arith)
rest_one (a ∷ l) zero d h = refl
rest_one (a ∷ l) (suc i) d h = rest_one l i d (omega arith)

pub rest_more : {A : Type 0} (l : List A) (i : ℕ) (d : A) → i < length l → drop i l ≡ get_or l i d ∷ drop (i + 1) l
rest_more l i d h = rw add-one (rest_one l i d h)

-- a test of every label, moved
pub every_walked : (d : Offset) (t : Placed → Bool) (second : List SecondLabel)
    → list_all (λ l. t (shifted_by d (held_at l))) second ≡ every t (map (shifted_by d) (held_labels second))
unfolding every
every_walked d t [] = refl
every_walked d t (l ∷ second) = ap (λ (u : Bool). t (shifted_by d (held_at l)) && u) (every_walked d t second)

pub every_held : (d : Offset) (t : Placed → Bool) (second : List SecondLabel) → every t (map (shifted_by d) (held_labels second)) ≡ true
    → All (λ l. T (t (shifted_by d (held_at l)))) second
unfolding every
every_held d t [] e = All-nil (λ (l : SecondLabel). T (t (shifted_by d (held_at l))))
every_held d t (l ∷ second) e =
    let h = both (t (shifted_by d (held_at l))) (every t (map (shifted_by d) (held_labels second))) e in
    All-cons (λ (l : SecondLabel). T (t (shifted_by d (held_at l)))) l second (subst T (sym h.0) tt) (every_held d t second h.1)

-- ---- what came of the labels, in a run of calls over them

module _ (p : Run iter_steps) (second : List SecondLabel) (from : iter_rest p.from ≡ second) where
  up : ItemsMapTo p (λ y. y.now) second
  up = subst (λ (l : List SecondLabel). ItemsMapTo p (λ y. y.now) l) from (iter_runs p p.seen)

  pub few_came : p.len ≤ length second
  few_came = omega (arith, up.0)

  -- what is said of a call with a label says something of the label
  module _ (P : Bor SecondLabel → Type 0) (Q : SecondLabel → Type 0) (says : (x : Bor SecondLabel) → P x → Q x.now) where
    one : (r : Option (Bor SecondLabel)) (l : SecondLabel) → option_map (λ y. y.now) r ≡ Some l → IsSomeAnd r P → Q l
    one None l e h = absurd (let z : ◌≡◌ {A = ℕ} 0 1 = cc in omega arith)
    one (Some x) l e h = let same : x.now ≡ l = cc in subst Q same (says x h)

    each : (r : Option (Bor SecondLabel)) (l : SecondLabel) → option_map (λ y. y.now) r ≡ Some l → IfSome r P → Q l
    each None l e h = absurd (let z : ◌≡◌ {A = ℕ} 0 1 = cc in omega arith)
    each (Some x) l e h = let same : x.now ≡ l = cc in subst Q same (says x h)

    pub each_came : p.whole ≡ true → AllItems p P → All Q second
    each_came w h = λ j d l. each (p.at j) _ (up.2 j d (omega (arith, up.1 w))) (h j)

    pub one_came : (j : ℕ) → j < p.len → IsSomeAnd (p.at j) P → HoldsAt Q second j
    one_came j l h = λ d. one (p.at j) _ (up.2 j d l) h

    pub before_came : (i : ℕ) → i ≤ p.len → AllItemsBelow p i P → AllWithin Q second 0 i
    before_came i l h = λ j d b k. one (p.at j) _ (up.2 j d (omega arith)) (h j k)

-- ---- where the sheet has a corner

module _ (sheet : List ℕ) (k : ℕ) where
  or_found : Option Cell → Option Cell → Option Cell
  or_found None c = c
  or_found (Some b) c = Some b

  found_at : List (ℕ × ℕ) → Option Cell
  found_at l = option_map (λ e. cell_of e.0) (find (λ e. names k (label_of e.1)) l)

  found_from : (from n : ℕ) → found_below (holds_at sheet k) (from + n) ≡ or_found (found_below (holds_at sheet k) from) (found_at (written_in sheet from n))
  unfolding found_below or_at or_found found_at written_in names
  found_from from zero = let z : from + 0 ≡ from = omega arith in ap (found_below (holds_at sheet k)) z ∙ last (found_below (holds_at sheet k) from)
    where
      last : (c : Option Cell) → c ≡ or_found c None
      last None = refl
      last (Some b) = refl
  found_from from (suc n) =
      let z : from + suc n ≡ suc from + n = omega arith in
      ap (found_below (holds_at sheet k)) z ∙ found_from (suc from) n ∙ go (found_below (holds_at sheet k) from) (eqb (get_or sheet from 0) 0) refl
    where
      rest : List (ℕ × ℕ)
      rest = written_in sheet (suc from) n

      taken : (u : Bool) → or_found (or_at None u from) (found_at rest) ≡ option_map (λ e. cell_of e.0) (cond u (Some (from, get_or sheet from 0)) (find (λ e. names k (label_of e.1)) rest))
      taken true = refl
      taken false = refl

      go : (c : Option Cell) (t : Bool) → eqb (get_or sheet from 0) 0 ≡ t
          → or_found (or_at c (holds_at sheet k from) from) (found_at rest) ≡ or_found c (found_at (cond t rest ((from, get_or sheet from 0) ∷ rest)))
      go (Some b) t e = refl
      go None true e = rw (ap (names k) (blank_label (eqb-true (get_or sheet from 0) 0 e))) refl
      go None false e = taken (holds_at sheet k from)

  none_first : found_below (holds_at sheet k) 0 ≡ None
  unfolding found_below
  none_first = refl

  pub found_walked : option_map (λ e. cell_of e.0) (find (λ e. names k (label_of e.1)) (written_from sheet 0)) ≡ cell_on sheet k
  unfolding cell_on or_found found_at
  found_walked = sym (found_from 0 16384 ∙ ap (λ (c : Option Cell). or_found c (found_at (written_from sheet 0))) none_first)

  -- by the array
  pub entry_found : (used : List Bool) → Unused sheet used → k < corner_limit → get_or used k false ≡ is_found (cell_on sheet k)
  entry_found used t h = t.free k h ∙ sym (found_used sheet k)

  pub entry_nowhere : (used : List Bool) → Unused sheet used → k < corner_limit → get_or used k false ≡ false → cell_on sheet k ≡ None
  unfolding is_found
  entry_nowhere used t h e = go (cell_on sheet k) (sym (entry_found used t h) ∙ e)
    where
      go : (x : Option Cell) → is_found x ≡ false → x ≡ None
      go None p = refl
      go (Some c) p = absurd (no_both true refl p)

-- a cell at which the sheet has a corner is near it
pub cell_near : (sheet : List ℕ) (k : ℕ) (c : Cell) → cell_on sheet k ≡ Some c → NearSheet c
cell_near sheet k c e = on_near c (cell_found_on sheet k c e)

-- ---- what a label asks for

module _ (find : ℕ → Option Cell) (b : Placed) where
  pub asked_on : (r : Option Offset) → r ≡ asks (find b.corner) b.cell None → r ≡ None → (l : List Placed) → asked find (b ∷ l) ≡ asked find l
  unfolding asked asks
  asked_on r e n l = go (find b.corner) (sym e ∙ n)
    where
      go : (x : Option Cell) → asks x b.cell None ≡ None → asks x b.cell (asked find l) ≡ asked find l
      go None h = refl
      go (Some a) h = absurd (let z : ◌≡◌ {A = ℕ} 0 1 = cc in omega arith)

  pub asked_here : (r : Option Offset) (d : Offset) → r ≡ asks (find b.corner) b.cell None → r ≡ Some d
      → (l : List Placed) → asked find (b ∷ l) ≡ Some d
  unfolding asked asks
  asked_here r d e n l = go (find b.corner) (sym e ∙ n)
    where
      go : (x : Option Cell) → asks x b.cell None ≡ Some d → asks x b.cell (asked find l) ≡ Some d
      go None h = absurd (let z : ◌≡◌ {A = ℕ} 0 1 = cc in omega arith)
      go (Some a) h = h

pub asked_end : (find : ℕ → Option Cell) → asked find [] ≡ None
unfolding asked
asked_end find = refl

-- what the labels ask for
module _ (find : ℕ → Option Cell) where
  abbrev pub asked_one : SecondLabel → Option Offset
  asked_one l = asks (find l.corner) (cell_of l.place) None

  asked_none : (second : List SecondLabel) → All (λ l. asked_one l ≡ None) second → asked find (held_labels second) ≡ None
  asked_none [] h = asked_end find
  asked_none (l ∷ second) h =
      asked_on find (held_at l) (asked_one l) refl (All-head (λ (l : SecondLabel). asked_one l ≡ None) l second h) (held_labels second)
      ∙ asked_none second (All-tail (λ (l : SecondLabel). asked_one l ≡ None) l second h)

  asked_some : (second : List SecondLabel) (j : ℕ) (o : Offset) → j < length second → HoldsAt (λ l. asked_one l ≡ Some o) second j
      → AllWithin (λ l. asked_one l ≡ None) second 0 j → asked find (held_labels second) ≡ Some o
  asked_some [] j o b e h = absurd (omega arith)
  asked_some (l ∷ second) zero o b e h = asked_here find (held_at l) (asked_one l) o refl (e l) (held_labels second)
  asked_some (l ∷ second) (suc j) o b e h =
      asked_on find (held_at l) (asked_one l) refl (h 0 l (omega arith) (omega arith)) (held_labels second)
      ∙ asked_some second j o (omega arith) e (λ k d p q. h (suc k) d (omega arith) (omega arith))

  pub asked_walked : (second : List SecondLabel) (r : Option Offset)
      → (r ≡ None → All (λ l. asked_one l ≡ None) second)
      → ((o : Offset) → r ≡ Some o → (j : ℕ) × (j < length second) × HoldsAt (λ l. asked_one l ≡ Some o) second j × AllWithin (λ l. asked_one l ≡ None) second 0 j)
      → r ≡ asked find (held_labels second)
  asked_walked second None f g = sym (asked_none second (f refl))
  asked_walked second (Some o) f g = let h = g o refl in sym (asked_some second h.0 o h.1 h.2 h.3)

-- a shift asked for by labels on the sheet is at most 128 each way
within : (a c : Cell) → OnSheet a → OnSheet c → Within 128 (difference_of a c)
within a c h k =
    let p = line_i a h in
    let q = line_j a h in
    let r = line_i c k in
    let s = line_j c k in
    record { di_small = omega (arith, abs_sub a.i c.i); dj_small = omega (arith, abs_sub a.j c.j) }

pub asked_within : (sheet : List ℕ) (second : List SecondLabel) → HeldSecond second → (d : Offset) → asked (cell_on sheet) (held_labels second) ≡ Some d
    → Within 128 d
unfolding asked asks
asked_within sheet [] s d e = absurd (let z : ◌≡◌ {A = ℕ} 0 1 = cc in omega arith)
asked_within sheet (l ∷ second) s d e = go (asked_within sheet second (All-tail LabelHeld l second s) d) (cell_on sheet l.corner) refl e
  where
    go : (asked (cell_on sheet) (held_labels second) ≡ Some d → Within 128 d) → (x : Option Cell) → cell_on sheet l.corner ≡ x
        → asks x (cell_of l.place) (asked (cell_on sheet) (held_labels second)) ≡ Some d → Within 128 d
    go w None p h = w h
    go w (Some a) p h =
        let q : difference_of a (cell_of l.place) ≡ d = cc in
        subst (Within 128) q (within a (cell_of l.place) (cell_found_on sheet l.corner a p) (cell_on_lem l.place (All-head LabelHeld l second s).place_on))

-- ---- what is attached

-- one label more is attached, if its corner is not used
pub write_more : (used : List Bool) (sheet after : List ℕ) (d : Offset) (b : Placed) → after ≡ new_put (get_or used b.corner false) sheet (moved b.cell d) b.corner
    → (l : List Placed) → labelled sheet (new_held used (b ∷ l) d) ≡ labelled after (new_held used l d)
unfolding labelled kept new_put
write_more used sheet after d b e l = rw e (go (get_or used b.corner false))
  where
    go : (t : Bool)
        → labelled sheet (cond (not t) (shifted_by d b ∷ new_held used l d) (new_held used l d))
        ≡ labelled (cond t sheet (attached sheet (moved b.cell d) b.corner)) (new_held used l d)
    go true = refl
    go false = refl

pub write_end : (used : List Bool) (sheet : List ℕ) (d : Offset) (second : List SecondLabel) (i : ℕ) → length second ≤ i
    → labelled sheet (new_held used (held_labels (drop i second)) d) ≡ sheet
unfolding labelled kept
write_end used sheet d [] zero h = refl
write_end used sheet d [] (suc i) h = refl
write_end used sheet d (l ∷ second) zero h = absurd (omega arith)
write_end used sheet d (l ∷ second) (suc i) h = write_end used sheet d second i (omega arith)

-- ---- the join

-- two tests of the labels that agree keep the same ones
kept_held : (d : Offset) (p q : ℕ → Bool) (second : List SecondLabel) → All (λ l. p l.corner ≡ q l.corner) second
    → kept (λ l. p l.corner) (map (shifted_by d) (held_labels second)) ≡ kept (λ l. q l.corner) (map (shifted_by d) (held_labels second))
unfolding kept
kept_held d p q [] h = refl
kept_held d p q (l ∷ second) h =
    rw (All-head (λ (l : SecondLabel). p l.corner ≡ q l.corner) l second h, kept_held d p q second (All-tail (λ (l : SecondLabel). p l.corner ≡ q l.corner) l second h))
    refl

module _ (sheet : List ℕ) (used : List Bool) (second : List SecondLabel) (s : HeldSets sheet used second) where
  -- what the array says is new is what the sheet says is new
  new_same : (d : Offset) → new_held used (held_labels second) d ≡ new_by (cell_on sheet) (held_labels second) d
  unfolding new_by
  new_same d =
      kept_held d (λ k. not (get_or used k false)) (λ k. not (is_found (cell_on sheet k))) second
      (All-weaker LabelHeld (λ (l : SecondLabel). not (get_or used l.corner false) ≡ not (is_found (cell_on sheet l.corner)))
      (λ l h. ap not (entry_found sheet l.corner used s.unused h.corner_small)) second s.second)

  module _ (v : Verdict) (e : v ≡ verdict_on sheet (held_labels second)) where
    -- the refusal of what the verdict says
    pub join_refused : (m : Result (Unit {0}) Refusal) (u : Unjoinable) → v ≡ Err u → m ≡ Err (refusal_of u) → outcome sheet m ≡ join_on sheet (held_labels second)
    unfolding join_on outcome_of
    join_refused m u f h = rw (sym e ∙ f, h)

    module _ (d : Offset) (f : v ≡ Ok d) where
      pub join_by : (after : List ℕ) → after ≡ labelled sheet (new_held used (held_labels second) d)
          → outcome after (Ok tt) ≡ join_on sheet (held_labels second)
      unfolding join_on outcome_of
      join_by after g = rw (sym e ∙ f, g, new_same d) refl

      -- the shift was asked for, and tested
      pub join_write : WriteAsked second d
      unfolding verdict_on told tested
      join_write = go (asked (cell_on sheet) held) refl (sym e ∙ f)
        where
          held : List Placed
          held = held_labels second

          onto : Offset → Bool
          onto a = every (λ l. on_sheet l.cell) (map (shifted_by a) held)

          by_one : (a : Offset) → ◌≡◌ {A = Verdict} (Ok a) (Ok d) → a ≡ d
          by_one a h = cc

          write : (a : Offset) → asked (cell_on sheet) held ≡ Some a → onto a ≡ true → a ≡ d → WriteAsked second d
          write a p t h =
              subst (WriteAsked second) h
              (record { second = s.second; within = asked_within sheet second s.second a p; on = every_held a (λ l. on_sheet l.cell) second t })

          test : (a : Offset) → asked (cell_on sheet) held ≡ Some a → (t u : Bool) → onto a ≡ u
              → cond t (cond u (Ok a) (Err Unjoinable.Off)) (Err Unjoinable.Clash) ≡ Ok d → WriteAsked second d
          test a p true true q h = write a p q (by_one a h)
          test a p true false q h = absurd (let z : ◌≡◌ {A = ℕ} 0 1 = cc in omega arith)
          test a p false u q h = absurd (let z : ◌≡◌ {A = ℕ} 0 1 = cc in omega arith)

          go : (r : Option Offset) → asked (cell_on sheet) held ≡ r → told (agrees_on sheet) held r ≡ Ok d → WriteAsked second d
          go None p h = absurd (let z : ◌≡◌ {A = ℕ} 0 1 = cc in omega arith)
          go (Some a) p h = test a p (every (agrees_on sheet) (map (shifted_by a) held)) _ refl h
