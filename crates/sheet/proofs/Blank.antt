-- Places that hold nothing, one after the other: many of them are found by one word that joins all their words, and a walk over the sheet passes
-- over them, to those that hold something. Assumes nothing.
use Rattle.std.specs.Prelude.{None}
use mathlib.Core.Path.{◌≡◌, refl, sym, ap, ◌∙◌, subst}
use mathlib.Core.Bool.{Bool, true, false, cond, ◌&&◌}
use mathlib.Core.List.{List, [], ◌∷◌}
use Prim.Native.Nat.{ℕ, zero, suc, ◌+◌, ◌-◌, ◌%◌, ◌≤◌, ◌<◌}
use native.Mathlib.Decide.{dec_lt}
use native.Mathlib.Numerals.{add-one}
use native.Mathlib.Omega.{arith}
use borrow.Author.Tests.{eqb-true, eqb-false, eq-eqb, ne_eqb}
use lib.Bits.{bit_or, and_le_l, and_le_r, or_add_and}
use lib.Dec.{eqb}
use lib.ListN.{length, get_or, take, drop, length-drop}
use lib.Seq.{take-length}
use Rattle.std.specs.List.{fold, slice_range, All}
use Rattle.std.specs.Iterator.{YieldsFirst}
use Rattle.std.specs.Iterator.Runs.{YieldsInOrder}
use Rattle.std.proofs.iter.runs.Sources.{from_front, as_is}
use Rattle.std.proofs.lemmas.List.{get_or-take, get_or-drop, length-take}
use Rattle.std.proofs.lemmas.List.Sums.{fold_more}
use Rattle.sheet.specs.Words.{label_of}
use Rattle.sheet.specs.Blank.{all_blank, BlankRun, BlankPlaces, Passed, NextWritten, written_in, written_from, written_rest}
use Rattle.sheet.specs.declared.walk.Written.{Written}
use Rattle.sheet.proofs.Words.{label_none}

-- ---- two words joined: 0 where both are

or_zero : (a b : ℕ) → a ≡ 0 → b ≡ 0 → bit_or a b ≡ 0
or_zero a b p q = omega (arith, or_add_and a b)

or_left : (a b : ℕ) → bit_or a b ≡ 0 → a ≡ 0
or_left a b e = omega (arith, or_add_and a b, and_le_r a b)

or_right : (a b : ℕ) → bit_or a b ≡ 0 → b ≡ 0
or_right a b e = omega (arith, or_add_and a b, and_le_l a b)

or_blank : (a b : ℕ) → eqb (bit_or a b) 0 ≡ (eqb a 0 && eqb b 0)
or_blank a b = go (eqb a 0) (eqb b 0) refl refl
  where
    go : (s t : Bool) → eqb a 0 ≡ s → eqb b 0 ≡ t → eqb (bit_or a b) 0 ≡ (s && t)
    go true true p q = eq-eqb (bit_or a b) 0 (or_zero a b (eqb-true a 0 p) (eqb-true b 0 q))
    go true false p q = ne_eqb (bit_or a b) 0 (λ e. eqb-false b 0 q (or_right a b e))
    go false t p q = ne_eqb (bit_or a b) 0 (λ e. eqb-false a 0 p (or_left a b e))

-- ---- the places that were looked at

both : (a b : Bool) → (a && b) ≡ true → (a ≡ true) × (b ≡ true)
both true b e = (refl, e)
both false b e = absurd (let z : ◌≡◌ {A = ℕ} 0 1 = cc in omega arith)

module _ (sheet : List ℕ) (at : ℕ) where
  pub none_blank : true ≡ all_blank sheet at 0
  unfolding all_blank
  none_blank = refl

  -- one more word is joined
  pub joined_more : (i all : ℕ) → eqb all 0 ≡ all_blank sheet at i → eqb (bit_or all (get_or sheet (at + i) 0)) 0 ≡ all_blank sheet at (i + 1)
  unfolding all_blank
  joined_more i all e = or_blank all (get_or sheet (at + i) 0) ∙ rw (e, add-one)

  -- places of which each holds nothing
  pub blank_each : (n : ℕ) → ((i : ℕ) → i < n → get_or sheet (at + i) 0 ≡ 0) → all_blank sheet at n ≡ true
  unfolding all_blank
  blank_each zero h = refl
  blank_each (suc n) h = rw (blank_each n (λ i l. h i (omega arith)), h n (omega arith))

  -- each of them holds nothing
  pub blank_place : (n : ℕ) → all_blank sheet at n ≡ true → (i : ℕ) → i < n → get_or sheet (at + i) 0 ≡ 0
  unfolding all_blank
  blank_place zero e i h = absurd (omega arith)
  blank_place (suc n) e i h = let b = both (all_blank sheet at n) _ e in go (blank_place n b.0 i) (eqb-true _ 0 b.1) (dec_lt i n)
    where
      go : (i < n → get_or sheet (at + i) 0 ≡ 0) → get_or sheet (at + n) 0 ≡ 0 → Dec (i < n) → get_or sheet (at + i) 0 ≡ 0
      go f l (yes y) = f y
      go f l (no m) = let d : i ≡ n = omega (arith, m) in rw d l

  -- places of a part of the sheet
  part_word : (end n : ℕ) → n < end - at → get_or (slice_range sheet at end) (0 + n) 0 ≡ get_or sheet (at + n) 0
  part_word end n h =
      let z : 0 + n ≡ n = omega arith in
      ap (λ (k : ℕ). get_or (slice_range sheet at end) k 0) z ∙ get_or-take (end - at) (drop at sheet) n 0 h ∙ get_or-drop at sheet n 0

  part_blank : (end n : ℕ) → n ≤ end - at → all_blank (slice_range sheet at end) 0 n ≡ all_blank sheet at n
  unfolding all_blank
  part_blank end zero h = refl
  part_blank end (suc n) h = rw (part_blank end n (omega arith), part_word end n h)

  part_length : (end : ℕ) → end ≤ length sheet → length (slice_range sheet at end) ≡ end - at
  part_length end h = rw (length-take, length-drop) (omega arith)

  -- a row, or 16 places of it; or a run of places up to the next 16
  blank_block : (n : ℕ) → 0 < n → n ≤ 128 - at % 128 → all_blank sheet at n ≡ true → BlankPlaces sheet at n
  blank_block n some u e = record { upto = u; blank = e; some = λ z. some }

  pub block_found : (n : ℕ) → 0 < n → n ≤ 128 - at % 128 → at + n ≤ length sheet
      → all_blank (slice_range sheet at (at + n)) 0 (length (slice_range sheet at (at + n))) ≡ true → BlankPlaces sheet at n
  block_found n some u h e =
      let l : length (slice_range sheet at (at + n)) ≡ n = part_length (at + n) h ∙ omega arith in
      blank_block n some u (sym (part_blank (at + n) n (omega arith)) ∙ ap (all_blank (slice_range sheet at (at + n)) 0) (sym l) ∙ e)

  blank_rest : (n : ℕ) → BlankRun sheet at (16 - at % 16) n → BlankPlaces sheet at n
  blank_rest n b =
      let u = b.upto in
      record { upto = omega arith; blank = b.blank; some = λ e. go e (dec_lt 0 n) }
    where
      go : get_or sheet at 0 ≡ 0 → Dec (0 < n) → 0 < n
      go e (yes y) = y
      go e (no m) = absurd (b.stops (omega (arith, m)) (let d : at + n ≡ at = omega (arith, m) in rw d e))

  pub run_found : (n : ℕ) → at + 16 - at % 16 ≤ length sheet → BlankRun (slice_range sheet at (at + 16 - at % 16)) 0 (length (slice_range sheet at (at + 16 - at % 16))) n
      → BlankPlaces sheet at n
  run_found n h b =
      let end : ℕ = at + 16 - at % 16 in
      let l : length (slice_range sheet at end) ≡ 16 - at % 16 = part_length end h ∙ omega arith in
      let u : n ≤ 16 - at % 16 = subst (λ (m : ℕ). n ≤ m) l b.upto in
      blank_rest n
      (record {
        upto = u;
        blank = sym (part_blank end n (omega arith)) ∙ b.blank;
        stops = λ g e. b.stops (rw l g) (part_word end n (omega arith) ∙ e);
      })

-- ---- the words of places, joined

module _ (places : List ℕ) where
  joined : ℕ → ℕ
  joined n = fold bit_or 0 (take n places)

  joined_some : (n : ℕ) → n ≤ length places → eqb (joined n) 0 ≡ all_blank places 0 n
  unfolding joined
  joined_some zero h = none_blank places 0
  joined_some (suc n) h =
      let z : n ≡ 0 + n = omega arith in
      subst (λ (m : ℕ). eqb (joined m) 0 ≡ all_blank places 0 m) (add-one n)
      (ap (λ (w : ℕ). eqb w 0) (fold_more bit_or 0 places n 0 h)
      ∙ ap (λ (k : ℕ). eqb (bit_or (joined n) (get_or places k 0)) 0) z
      ∙ joined_more places 0 n (joined n) (joined_some n (omega arith)))

  pub joined_all : eqb (fold bit_or 0 places) 0 ≡ all_blank places 0 (length places)
  unfolding joined
  joined_all = ap (λ (l : List ℕ). eqb (fold bit_or 0 l) 0) (sym (take-length places)) ∙ joined_some (length places) (omega arith)

-- ---- the places passed

module _ (sheet : List ℕ) (from : ℕ) where
  pub passed_start : from ≤ 16384 → Passed sheet from from
  passed_start h = record { start = omega arith; upto = h; blank = λ p a b. absurd (omega arith) }

  -- a run of places more, as far as the row goes
  pub passed_more : (r n : ℕ) → Passed sheet from r → r < 16384 → BlankPlaces sheet r n → Passed sheet from (r + n)
  passed_more r n s h b =
      let u = b.upto in
      let l = s.start in
      record { start = omega arith; upto = omega arith; blank = λ p x y. go p x y (dec_lt p r) }
    where
      go : (p : ℕ) → from ≤ p → p < r + n → Dec (p < r) → get_or sheet p 0 ≡ 0
      go p x y (yes m) = s.blank p x m
      go p x y (no m) =
          let d : r + (p - r) ≡ p = omega (arith, m) in
          sym (ap (λ (q : ℕ). get_or sheet q 0) d) ∙ blank_place sheet r n b.blank (p - r) (omega (arith, m))

  pub passed_end : (r : ℕ) → Passed sheet from r → 16384 ≤ r → NextWritten sheet from r
  passed_end r s h = record { passed = s; written = λ a b. omega arith }

  pub passed_hit : (r : ℕ) → Passed sheet from r → (get_or sheet r 0 ≡ 0 → ⊥) → NextWritten sheet from r
  passed_hit r s e = record { passed = s; written = λ h z. e z }

-- ---- a walk over the sheet

-- what no place of some kind changes is as it was behind places of that kind
module _ (P Q : ℕ → Type 0) (step : (p : ℕ) → p < 16384 → Q p → P p → P (p + 1)) where
  over_some : (from n : ℕ) → from + n ≤ 16384 → ((p : ℕ) → from ≤ p → p < from + n → Q p) → P from → P (from + n)
  over_some from zero h b s = let d : from ≡ from + 0 = omega arith in subst P d s
  over_some from (suc n) h b s =
      let d : from + n + 1 ≡ from + suc n = omega arith in
      subst P d
      (step (from + n) (omega arith) (b (from + n) (omega arith) (omega arith)) (over_some from n (omega arith) (λ p x y. b p x (omega arith)) s))

  pub carried : {from r : ℕ} → from ≤ r → r ≤ 16384 → ((p : ℕ) → from ≤ p → p < r → Q p) → P from → P r
  carried {from} {r} l u b s = let d : from + (r - from) ≡ r = omega arith in subst P d (over_some from (r - from) (omega arith) (λ p x y. b p x (omega arith)) s)

-- so of places that hold nothing, up to the next place that holds something
pub skips : (sheet : List ℕ) (P : ℕ → Type 0) → ((p : ℕ) → p < 16384 → get_or sheet p 0 ≡ 0 → P p → P (p + 1)) → {from r : ℕ} → NextWritten sheet from r → P from → P r
skips sheet P step w = carried P (λ p. get_or sheet p 0 ≡ 0) step w.passed.start w.passed.upto w.passed.blank

-- ---- the places that hold something, one after the other

module _ (sheet : List ℕ) where
  -- a place is passed over, or comes first
  written_over : (p : ℕ) → p < 16384 → get_or sheet p 0 ≡ 0 → written_from sheet (p + 1) ≡ written_from sheet p
  unfolding written_in
  written_over p h e =
      let n : 16384 - p ≡ suc (16384 - (p + 1)) = omega arith in
      rw (n, e, add-one) refl

  written_first : (p : ℕ) → p < 16384 → (get_or sheet p 0 ≡ 0 → ⊥) → written_from sheet p ≡ (p, get_or sheet p 0) ∷ written_from sheet (p + 1)
  unfolding written_in
  written_first p h e =
      let n : 16384 - p ≡ suc (16384 - (p + 1)) = omega arith in
      rw (n, ne_eqb (get_or sheet p 0) 0 e, add-one) refl

  module _ {from r : ℕ} (w : NextWritten sheet from r) where
    written_same : written_from sheet r ≡ written_from sheet from
    written_same = skips sheet (λ p. written_from sheet p ≡ written_from sheet from) (λ p h e s. written_over p h e ∙ s) w refl

    pub written_next : r < 16384 → written_from sheet from ≡ (r, get_or sheet r 0) ∷ written_from sheet (r + 1)
    written_next h = sym written_same ∙ written_first r h (w.written h)

    pub written_none : 16384 ≤ r → written_from sheet from ≡ []
    unfolding written_in
    written_none h = let n : 16384 - r ≡ 0 = omega arith in sym written_same ∙ ap (written_in sheet r) n

  -- at most as many as there are places, and each below 16,384
  pub written_few : (from n : ℕ) → length (written_in sheet from n) ≤ n
  unfolding written_in
  written_few from zero = omega arith
  written_few from (suc n) = go (eqb (get_or sheet from 0) 0) (written_in sheet (suc from) n) (written_few (suc from) n)
    where
      go : (t : Bool) (l : List (ℕ × ℕ)) → length l ≤ n → length (cond t l ((from, get_or sheet from 0) ∷ l)) ≤ suc n
      go true l h = omega arith
      go false l h = omega arith

  pub written_all : (from n : ℕ) → from + n ≤ 16384 → All (λ e. e.0 < 16384) (written_in sheet from n)
  unfolding written_in
  written_all from zero h = λ k d l. absurd (omega arith)
  written_all from (suc n) h = go (eqb (get_or sheet from 0) 0) (written_all (suc from) n (omega arith))
    where
      go : (t : Bool) → All (λ e. e.0 < 16384) (written_in sheet (suc from) n)
          → All (λ e. e.0 < 16384) (cond t (written_in sheet (suc from) n) ((from, get_or sheet from 0) ∷ written_in sheet (suc from) n))
      go true a = a
      go false a = λ k d l. one k d l
        where
          one : (k : ℕ) (d : ℕ × ℕ) → k < suc (length (written_in sheet (suc from) n)) → (get_or ((from, get_or sheet from 0) ∷ written_in sheet (suc from) n) k d).0 < 16384
          one zero d l = omega arith
          one (suc k) d l = a k d (omega arith)

  written_below : (from n : ℕ) (e : ℕ × ℕ) (l : List (ℕ × ℕ)) → written_in sheet from n ≡ e ∷ l → e.0 < from + n
  unfolding written_in
  written_below from zero e l d = absurd (let z : ◌≡◌ {A = ℕ} 0 1 = cc in omega arith)
  written_below from (suc n) e l d = go (eqb (get_or sheet from 0) 0) d (written_below (suc from) n e l)
    where
      go : (t : Bool) → cond t (written_in sheet (suc from) n) ((from, get_or sheet from 0) ∷ written_in sheet (suc from) n) ≡ e ∷ l
          → (written_in sheet (suc from) n ≡ e ∷ l → e.0 < suc from + n) → e.0 < from + suc n
      go true k h = let b = h k in omega arith
      go false k h = let b : from ≡ e.0 = cc in omega arith

pub written_runs : YieldsInOrder (YieldsFirst written_rest) written_rest
written_runs p s = as_is p (written_rest p.from) (from_front (YieldsFirst written_rest) (λ e. e) written_rest (λ w v h. ap length h.0) (λ w e v h. h) p s)

pub rest_below : (w : Written) (e : ℕ × ℕ) (l : List (ℕ × ℕ)) → written_rest w ≡ e ∷ l → e.0 < 16384
unfolding written_rest
rest_below w e l d = omega (arith, written_below w.sheet.now w.from (16384 - w.from) e l d)

-- such a place has no label
pub blank_label : {w : ℕ} → w ≡ 0 → label_of w ≡ None
blank_label e = ap label_of e ∙ sym (label_none 0 (omega arith))
