-- A round of fill or local, a place at a time, for every pass: some cells and one more, that a cell not yet reached keeps its label, and that looking at
-- the label that a place has now is the same as listing the cells at the round's start. Assumes nothing.
use Rattle.std.specs.Prelude.{Option, Some, None}
use mathlib.Core.Path.{◌≡◌, refl, sym, ap, ◌∙◌, subst}
use mathlib.Core.Bool.{Bool, true, false, not, ◌&&◌, cond}
use mathlib.Core.List.{List}
use Prim.Native.Nat.{ℕ, zero, suc, ◌+◌, ◌<◌, ◌≤◌}
use native.Mathlib.Numerals.{add-one}
use native.Mathlib.Omega.{arith}
use lib.ListN.{length, get_or}
use Rattle.sheet.specs.Cells.{cell_of}
use Rattle.sheet.specs.Words.{label_of, label_at}
use Rattle.sheet.specs.declared.Cell.{Cell}
use Rattle.labels.specs.Labelled.{passing, names_corner, is_labelled}
use Rattle.labels.proofs.Below.{no_both, both, passing_none, passing_hit, passing_miss}
use Rattle.labels.proofs.Labelled.{label_of_place}
use Rattle.passes.specs.Rounds.{walk}
use Rattle.passes.specs.Fill.{cells_of}
use Rattle.passes.proofs.Rounds.{walk_none, walk_more, walk_keeps}
use Rattle.region.specs.Places.{place_visited}

-- ---- the places that a round walks

bare : (l : Option ℕ) → not (names_corner l) ≡ true → l ≡ None
unfolding names_corner
bare None f = refl
bare (Some k) f = absurd (no_both false f refl)

-- in the region, and unlabelled at the round's start
unfoldable pub walked : (Cell → Bool) → List ℕ → ℕ → Bool
walked region sheet q = region (cell_of q) && not (names_corner (label_at sheet (cell_of q)))

-- where the pass stands after the places below n
abbrev pub walked_to : {S : Type 0} → (Cell → S → S) → (S → List ℕ) → (Cell → Bool) → S → ℕ → S
walked_to visit sheet region s n = walk visit (passing (walked region (sheet s)) n) s

-- a place that a round walks is bare at the round's start
walked_bare : (region : Cell → Bool) (sheet : List ℕ) (q : ℕ) → q < 16384 → walked region sheet q ≡ true → label_of (get_or sheet q 0) ≡ None
unfolding walked
walked_bare region sheet q h e =
    sym (label_of_place sheet q h) ∙ bare (label_at sheet (cell_of q)) (both (region (cell_of q)) (not (names_corner (label_at sheet (cell_of q)))) e).1

module _ {S : Type 0} (visit : Cell → S → S) (sheet : S → List ℕ) (region : Cell → Bool) (s : S) where
  -- all places are the cells that a round lists
  pub walked_all : walked_to visit sheet region s 16384 ≡ walk visit (cells_of region (λ c. names_corner (label_at (sheet s) c))) s
  unfolding cells_of walked
  walked_all = refl

  pub walked_start : walked_to visit sheet region s 0 ≡ s
  walked_start = ap (λ (l : List ℕ). walk visit l s) (passing_none (walked region (sheet s))) ∙ walk_none visit s

  pub walked_hit : (n : ℕ) → walked region (sheet s) n ≡ true → walked_to visit sheet region s (n + 1) ≡ visit (cell_of n) (walked_to visit sheet region s n)
  walked_hit n e = ap (λ (l : List ℕ). walk visit l s) (passing_hit (walked region (sheet s)) n e) ∙ walk_more visit (passing (walked region (sheet s)) n) n s

  pub walked_miss : (n : ℕ) → walked region (sheet s) n ≡ false → walked_to visit sheet region s (n + 1) ≡ walked_to visit sheet region s n
  walked_miss n e = ap (λ (l : List ℕ). walk visit l s) (passing_miss (walked region (sheet s)) n e)

-- ---- what stays during a round

-- the sheet's length, and the labels of the places from n on
pub record Ahead (before after : List ℕ) (n : ℕ) : Type 0 where
  pub same_length : length after ≡ length before
  pub same_label : (q : ℕ) → n ≤ q → q < 16384 → label_of (get_or after q 0) ≡ label_of (get_or before q 0)

-- after a visit of a place's cell: the sheet's length, and the labels of all other places
pub record Elsewhere (before after : List ℕ) (n : ℕ) : Type 0 where
  pub same_length : length after ≡ length before
  pub same_label : (q : ℕ) → q < 16384 → (q ≡ n → ⊥) → label_of (get_or after q 0) ≡ label_of (get_or before q 0)

module _ (region : Cell → Bool) (before : List ℕ) (n : ℕ) (h : n < 16384) where
  ahead_passed : {after : List ℕ} → Ahead before after n → Ahead before after (n + 1)
  ahead_passed a = record { same_length = a.same_length; same_label = λ q k. a.same_label q (omega arith) }

  ahead_visited : {mid after : List ℕ} → Ahead before mid n → Elsewhere mid after n → Ahead before after (n + 1)
  ahead_visited a v =
      record {
        same_length = v.same_length ∙ a.same_length;
        same_label = λ q m l. v.same_label q l (λ e. let d : q ≡ n = e in omega arith) ∙ a.same_label q (omega arith) l;
      }

  -- a place not yet reached is bare if it was
  ahead_bare : {after : List ℕ} → Ahead before after n → walked region before n ≡ true → label_at after (cell_of n) ≡ None
  ahead_bare {after} a e = label_of_place after n h ∙ a.same_label n (omega arith) h ∙ walked_bare region before n h e

  -- its present label says what its label at the round's start says
  ahead_present : {after : List ℕ} → Ahead before after n → (region (cell_of n) && not (names_corner (label_at after (cell_of n)))) ≡ walked region before n
  unfolding walked
  ahead_present {after} a =
      ap (λ (l : Option ℕ). region (cell_of n) && not (names_corner l))
      (label_of_place after n h ∙ a.same_label n (omega arith) h ∙ sym (label_of_place before n h))

-- a pass whose visits of bare cells change no label elsewhere
module _ {S : Type 0} (visit : Cell → S → S) (sheet : S → List ℕ)
    (elsewhere : (n : ℕ) → n < 16384 → (s : S) → 16384 ≤ length (sheet s) → label_at (sheet s) (cell_of n) ≡ None
    → Elsewhere (sheet s) (sheet (visit (cell_of n) s)) n)
    (region : Cell → Bool) (s : S) (long : 16384 ≤ length (sheet s)) where
  -- a place more
  ahead_more : (n : ℕ) → n < 16384 → Ahead (sheet s) (sheet (walked_to visit sheet region s n)) n
      → Ahead (sheet s) (sheet (walked_to visit sheet region s (n + 1))) (n + 1)
  ahead_more n h a = go (walked region (sheet s) n) refl
    where
      go : (t : Bool) → walked region (sheet s) n ≡ t → Ahead (sheet s) (sheet (walked_to visit sheet region s (n + 1))) (n + 1)
      go true e =
          rw (walked_hit visit sheet region s n e)
          (ahead_visited region (sheet s) n h a
          (elsewhere n h (walked_to visit sheet region s n) (rw a.same_length long) (ahead_bare region (sheet s) n h a e)))
      go false e = rw (walked_miss visit sheet region s n e) (ahead_passed region (sheet s) n h a)

  ahead : (n : ℕ) → n ≤ 16384 → Ahead (sheet s) (sheet (walked_to visit sheet region s n)) n
  ahead zero h = rw (walked_start visit sheet region s) (record { same_length = refl; same_label = λ q k l. refl })
  ahead (suc n) h = subst (λ (m : ℕ). Ahead (sheet s) (sheet (walked_to visit sheet region s m)) m)
      (add-one n) (ahead_more n (omega arith) (ahead n (omega arith)))

  -- looking at the present label is the same as looking at that of the round's start
  pub looked : (n : ℕ) → n < 16384 → {inside : Bool} → inside ≡ region (cell_of n)
      → place_visited visit sheet inside n (walked_to visit sheet region s n) ≡ walked_to visit sheet region s (n + 1)
  unfolding place_visited
  looked n h f = rw (f, ahead_present region (sheet s) n h (ahead n (omega arith))) (go (walked region (sheet s) n) refl)
    where
      now : S
      now = walked_to visit sheet region s n

      go : (t : Bool) → walked region (sheet s) n ≡ t → cond t (visit (cell_of n) now) now ≡ walked_to visit sheet region s (n + 1)
      go true e = sym (walked_hit visit sheet region s n e)
      go false e = sym (walked_miss visit sheet region s n e)

-- ---- a place looked at, test by test

module _ {S : Type 0} (visit : Cell → S → S) (sheet : S → List ℕ) (inside : Bool) (n : ℕ) (s : S) where
  pub looked_out : inside ≡ false → place_visited visit sheet inside n s ≡ s
  unfolding place_visited
  looked_out e = rw e

  module _ (h : n < 16384) (within : inside ≡ true) where
    pub looked_labelled : is_labelled (get_or (sheet s) n 0) ≡ true → place_visited visit sheet inside n s ≡ s
    unfolding place_visited is_labelled
    looked_labelled e = rw (within, label_of_place (sheet s) n h, e)

    pub looked_bare : (c : Cell) → c ≡ cell_of n → is_labelled (get_or (sheet s) n 0) ≡ false → place_visited visit sheet inside n s ≡ visit c s
    unfolding place_visited is_labelled
    looked_bare c f e = rw (f, within, label_of_place (sheet s) n h, e)

-- ---- what only grows with a visit: of a number that no visit lessens

module _ {S : Type 0} (visit : Cell → S → S) (f : S → ℕ) (grows : (c : Cell) (s : S) → f s ≤ f (visit c s)) where
  pub walk_grows : (qs : List ℕ) (s : S) → f s ≤ f (walk visit qs s)
  walk_grows qs s = walk_keeps visit (λ rest t. f s ≤ f t) (λ q rest t h. omega (arith, grows (cell_of q) t)) qs s (omega arith)

  pub looked_grows : (sheet : S → List ℕ) (inside : Bool) (n : ℕ) (s : S) → f s ≤ f (place_visited visit sheet inside n s)
  unfolding place_visited
  looked_grows sheet inside n s = go (inside && not (names_corner (label_at (sheet s) (cell_of n))))
    where
      go : (t : Bool) → f s ≤ f (cond t (visit (cell_of n) s) s)
      go true = grows (cell_of n) s
      go false = omega arith

-- of a number to which a visit adds at most one
module _ {S : Type 0} (visit : Cell → S → S) (sheet : S → List ℕ) (f : S → ℕ) (most : (c : Cell) (s : S) → f (visit c s) ≤ f s + 1) where
  pub walked_most : (region : Cell → Bool) (s : S) (n : ℕ) → f (walked_to visit sheet region s n) ≤ f s + n
  walked_most region s zero = rw (walked_start visit sheet region s) (omega arith)
  walked_most region s (suc n) = rw (← add-one n) (go (walked region (sheet s) n) refl (walked_most region s n))
    where
      go : (t : Bool) → walked region (sheet s) n ≡ t → f (walked_to visit sheet region s n) ≤ f s + n
          → f (walked_to visit sheet region s (n + 1)) ≤ f s + (n + 1)
      go true e w = rw (walked_hit visit sheet region s n e) (omega (arith, most (cell_of n) (walked_to visit sheet region s n)))
      go false e w = rw (walked_miss visit sheet region s n e) (omega arith)

  pub looked_most : (inside : Bool) (n : ℕ) (s : S) → f (place_visited visit sheet inside n s) ≤ f s + 1
  unfolding place_visited
  looked_most inside n s = go (inside && not (names_corner (label_at (sheet s) (cell_of n))))
    where
      go : (t : Bool) → f (cond t (visit (cell_of n) s) s) ≤ f s + 1
      go true = most (cell_of n) s
      go false = omega arith
