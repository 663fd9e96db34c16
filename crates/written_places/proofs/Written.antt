-- The sheet of some written places: what is asked of it is asked of them, and it changes as they do. Assumes nothing.
use Rattle.std.specs.Prelude.{None}
use mathlib.Core.Path.{◌≡◌, refl, sym, ap, ◌∙◌, fun_ext, subst}
use mathlib.Core.Bool.{Bool, true, false, cond, ◌||◌}
use mathlib.Core.List.{List, [], ◌∷◌, ◌++◌, append_assoc, append-nil}
use Prim.Native.Nat.{ℕ, zero, suc, ◌+◌, ◌<◌, ◌≤◌}
use native.Mathlib.Decide.{ℕ_discrete}
use native.Mathlib.Omega.{arith}
use borrow.Author.Tests.{eq-eqb, ne_eqb, eqb-true, eqb-false, ltb-true, ltb-false}
use lib.Dec.{T, eqb, ltb}
use lib.ListN.{length, get_or, set, length-set}
use lib.Seq.{get_or-set_same, get_or-set_other, set-set, set_comm, set_out}
use Rattle.sheet.specs.Cells.{on_sheet, place_of}
use Rattle.sheet.specs.Words.{label_of, label_of_number, label_at, with_label, with_hole, with_ambiguous, without_marks, attached, hole_marked, ambiguous_marked, marks_cleared}
use Rattle.sheet.specs.Corners.{seen_through, seen_of}
use Rattle.sheet.specs.declared.Cell.{Cell}
use Rattle.sheet.specs.declared.Corner.{Corner}
use Rattle.sheet.proofs.Laws.{place_in}
use Rattle.sheet.proofs.Words.{empty_length, empty_word}
use Rattle.labels.specs.Labelled.{passing, any_below, names_corner, is_labelled, labelled_places, label_count}
use Rattle.labels.specs.Used.{names, used_on}
use Rattle.labels.specs.Rim.{rim_at, rim}
use Rattle.labels.specs.Box.{box_around, box_of}
use Rattle.labels.proofs.Below.{any_hit, any_no, any_ext}
use Rattle.report_line.specs.Result.{lines_from}
use Rattle.written_places.specs.Written.{Written, written, Rise, no_more, then, sheet_with, word_in, told, any_in, label_in, labelled_in, seen_in, place_if, places_in, used_in, rim_in, put_in, put, attached_in, hole_in, ambiguous_in, cleared_in}

-- ---- the words of the sheet

pub sheet_length : (w : List Written) → length (sheet_with w) ≡ 16384
unfolding sheet_with
sheet_length [] = empty_length
sheet_length (e ∷ es) = length-set (sheet_with es) e.place e.word ∙ sheet_length es

pub word_so : (w : List Written) (p : ℕ) → p < 16384 → get_or (sheet_with w) p 0 ≡ word_in w p
unfolding sheet_with word_in
word_so [] p h = empty_word p
word_so (e ∷ es) p h = go (word_so es p h) (ℕ_discrete p e.place)
  where
    go : get_or (sheet_with es) p 0 ≡ word_in es p → Dec (p ≡ e.place) → get_or (set (sheet_with es) e.place e.word) p 0 ≡ cond (eqb p e.place) e.word (word_in es p)
    go f (yes d) = rw (eq-eqb p e.place d, d) (get_or-set_same (sheet_with es) e.place e.word 0 (omega (arith, sheet_length es)))
    go f (no d) = rw (ne_eqb p e.place d) (get_or-set_other (sheet_with es) e.place p e.word 0 d ∙ f)

-- ---- a word put

put_in_lem : (w : List Written) (p v : ℕ) → set (sheet_with w) p v ≡ sheet_with (put_in w p v)
unfolding sheet_with put_in
put_in_lem [] p v = refl
put_in_lem (e ∷ es) p v = go (put_in_lem es p v) (ltb p e.place) (ℕ_discrete p e.place)
  where
    at : set (sheet_with es) p v ≡ sheet_with (put_in es p v) → Dec (p ≡ e.place) → set (set (sheet_with es) e.place e.word) p v ≡ sheet_with (cond (eqb p e.place) (written p v ∷ es) (e ∷ put_in es p v))
    at f (yes d) = rw (eq-eqb p e.place d, d) (set-set (sheet_with es) e.place e.word v)
    at f (no d) =
        rw (ne_eqb p e.place d)
        (set_comm (sheet_with es) e.place p e.word v (λ z. d (sym z)) ∙ ap (λ (s : List ℕ). set s e.place e.word) f)

    go : set (sheet_with es) p v ≡ sheet_with (put_in es p v) → (t : Bool) → Dec (p ≡ e.place) → set (set (sheet_with es) e.place e.word) p v ≡ sheet_with (cond t (written p v ∷ e ∷ es) (cond (eqb p e.place) (written p v ∷ es) (e ∷ put_in es p v)))
    go f true d = refl
    go f false d = at f d

pub put_so : (w : List Written) (p v : ℕ) → set (sheet_with w) p v ≡ sheet_with (put w p v)
unfolding put
put_so w p v = go (ltb p 16384) refl
  where
    go : (t : Bool) → ltb p 16384 ≡ t → set (sheet_with w) p v ≡ sheet_with (cond t (put_in w p v) w)
    go true e = put_in_lem w p v
    go false e = set_out (sheet_with w) p v (omega (arith, ltb-false p 16384 e, sheet_length w))

-- the places still rise
rise_in : {n : ℕ} (w : List Written) (p v : ℕ) → n ≤ p → p < 16384 → Rise n w → Rise n (put_in w p v)
unfolding put_in
rise_in [] p v low high no_more = then low high no_more
rise_in {n} (e ∷ es) p v low high (then l h r) = go (λ m. rise_in es p v m high r) (ltb p e.place) refl (eqb p e.place) refl
  where
    go : (suc e.place ≤ p → Rise (suc e.place) (put_in es p v)) → (t : Bool) → ltb p e.place ≡ t → (u : Bool) → eqb p e.place ≡ u → Rise n (cond t (written p v ∷ e ∷ es) (cond u (written p v ∷ es) (e ∷ put_in es p v)))
    go f true a u b = let below : suc p ≤ e.place = ltb-true p e.place a in then low high (then below h r)
    go f false a true b = let d = eqb-true p e.place b in then low high (subst (λ (q : ℕ). Rise (suc q) es) (sym d) r)
    go f false a false b = then l h (f (omega (arith, ltb-false p e.place a, eqb-false p e.place b)))

pub rise_put : (w : List Written) (p v : ℕ) → Rise 0 w → Rise 0 (put w p v)
unfolding put
rise_put w p v r = go (ltb p 16384) refl
  where
    go : (t : Bool) → ltb p 16384 ≡ t → Rise 0 (cond t (put_in w p v) w)
    go true e = rise_in w p v (omega arith) (ltb-true p 16384 e) r
    go false e = r

-- a word put that was made from the word before: past the sheet nothing is put
change_so : (f : ℕ → ℕ) (w : List Written) (p : ℕ) → set (sheet_with w) p (f (get_or (sheet_with w) p 0)) ≡ sheet_with (put w p (f (word_in w p)))
change_so f w p = go (ltb p 16384) refl
  where
    go : (t : Bool) → ltb p 16384 ≡ t → set (sheet_with w) p (f (get_or (sheet_with w) p 0)) ≡ sheet_with (put w p (f (word_in w p)))
    go true e = ap (λ (v : ℕ). set (sheet_with w) p (f v)) (word_so w p (ltb-true p 16384 e)) ∙ put_so w p (f (word_in w p))
    go false e =
        let past : length (sheet_with w) ≤ p = omega (arith, ltb-false p 16384 e, sheet_length w) in
        set_out (sheet_with w) p (f (get_or (sheet_with w) p 0)) past ∙ sym (set_out (sheet_with w) p (f (word_in w p)) past) ∙ put_so w p (f (word_in w p))

module _ (w : List Written) (c : Cell) where
  pub attached_so : (k : ℕ) → attached (sheet_with w) c k ≡ sheet_with (attached_in w c k)
  unfolding attached
  attached_so k = change_so (λ v. with_label v k) w (place_of c)

  pub hole_so : hole_marked (sheet_with w) c ≡ sheet_with (hole_in w c)
  unfolding hole_marked
  hole_so = change_so with_hole w (place_of c)

  pub ambiguous_so : ambiguous_marked (sheet_with w) c ≡ sheet_with (ambiguous_in w c)
  unfolding ambiguous_marked
  ambiguous_so = change_so with_ambiguous w (place_of c)

  pub cleared_so : marks_cleared (sheet_with w) c ≡ sheet_with (cleared_in w c)
  unfolding marks_cleared
  cleared_so = change_so without_marks w (place_of c)

-- ---- the label at a cell

module _ (w : List Written) where
  pub label_so : (c : Cell) → label_at (sheet_with w) c ≡ label_in w c
  unfolding label_at label_in
  label_so c = go (on_sheet c) refl
    where
      go : (t : Bool) → on_sheet c ≡ t → cond t (label_of (get_or (sheet_with w) (place_of c) 0)) None ≡ cond t (label_of (word_in w (place_of c))) None
      go true e = ap label_of (word_so w (place_of c) (place_in c (subst T (sym e) tt)))
      go false e = refl

  pub seen_so : (corner : ℕ → Corner) → seen_of corner (sheet_with w) ≡ seen_in corner w
  unfolding seen_of
  seen_so corner = fun_ext (λ c. ap (seen_through corner) (label_so c))

  pub labelled_so : ◌≡◌ {A = Cell → Bool} (λ c. names_corner (label_at (sheet_with w) c)) (labelled_in w)
  labelled_so = fun_ext (λ c. ap names_corner (label_so c))

-- ---- what all places say

lines_ext : (g g' : ℕ → List ℕ) (k n : ℕ) → ((p : ℕ) → k ≤ p → p < k + n → g p ≡ g' p) → lines_from g k n ≡ lines_from g' k n
unfolding lines_from
lines_ext g g' k zero e = refl
lines_ext g g' k (suc n) e = λ t. e k (omega arith) (omega arith) t ++ lines_ext g g' (suc k) n (λ p l h. e p (omega arith) (omega arith)) t

-- the word at a place that is not the first written one
word_past : (e : Written) (es : List Written) (p : ℕ) → (p ≡ e.place → ⊥) → word_in (e ∷ es) p ≡ word_in es p
unfolding word_in
word_past e es p d = rw (ne_eqb p e.place d)

word_at : (e : Written) (es : List Written) (p : ℕ) → p ≡ e.place → word_in (e ∷ es) p ≡ e.word
unfolding word_in
word_at e es p d = rw (eq-eqb p e.place d)

-- before the first written place nothing is written
word_none : (p : ℕ) → word_in [] p ≡ 0
unfolding word_in
word_none p = refl

word_before : {n : ℕ} (w : List Written) (p : ℕ) → Rise n w → p < n → word_in w p ≡ 0
word_before [] p no_more h = word_none p
word_before (e ∷ es) p (then l h r) b = word_past e es p (λ d. omega arith) ∙ word_before es p r (omega arith)

-- where only written places say something, all places say what these do
module _ (line : ℕ → ℕ → List ℕ) (blank : (p : ℕ) → line p 0 ≡ []) where
  lines_told : {k : ℕ} (w : List Written) (n : ℕ) → k + n ≡ 16384 → Rise k w → lines_from (λ p. line p (word_in w p)) k n ≡ told line w
  unfolding lines_from told
  lines_told [] zero s no_more = refl
  lines_told {k} [] (suc n) s no_more =
      let head : line k (word_in [] k) ≡ [] = ap (line k) (word_none k) ∙ blank k in
      let rest = lines_told {k = suc k} [] n (omega arith) no_more in
      λ t. head t ++ rest t
  lines_told (e ∷ es) zero s (then l h r) = absurd (omega arith)
  lines_told {k} (e ∷ es) (suc n) s (then l h r) =
      go (ℕ_discrete k e.place) (λ d. lines_told {k = suc k} (e ∷ es) n (omega arith) (then (omega (arith, d)) h r)) (λ x. lines_told {k = suc k} es n (omega arith) x)
    where
      go : Dec (k ≡ e.place) → ((k ≡ e.place → ⊥) → lines_from (λ p. line p (word_in (e ∷ es) p)) (suc k) n ≡ told line (e ∷ es))
          → (Rise (suc k) es → lines_from (λ p. line p (word_in es p)) (suc k) n ≡ told line es)
          → line k (word_in (e ∷ es) k) ++ lines_from (λ p. line p (word_in (e ∷ es) p)) (suc k) n ≡ line e.place e.word ++ told line es
      go (yes d) f g =
          let head : line k (word_in (e ∷ es) k) ≡ line e.place e.word = ap (line k) (word_at e es k d) ∙ ap (λ (p : ℕ). line p e.word) d in
          let rest = lines_ext (λ p. line p (word_in (e ∷ es) p)) (λ p. line p (word_in es p)) (suc k) n (λ p l h. ap (line p) (word_past e es p (λ z. omega arith)))
          ∙ g (subst (λ (q : ℕ). Rise (suc q) es) (sym d) r) in
          λ t. head t ++ rest t
      go (no d) f g =
          let head : line k (word_in (e ∷ es) k) ≡ [] = ap (line k) (word_before {n = suc k} (e ∷ es) k (then (omega (arith, d)) h r) (omega arith)) ∙ blank k in
          let rest = f d in
          λ t. head t ++ rest t

  -- on the sheet
  pub all_told : (w : List Written) → Rise 0 w → lines_from (λ p. line p (get_or (sheet_with w) p 0)) 0 16384 ≡ told line w
  all_told w r =
      lines_ext (λ p. line p (get_or (sheet_with w) p 0)) (λ p. line p (word_in w p)) 0 16384 (λ p l h. ap (line p) (word_so w p h)) ∙ lines_told w 16384 refl r

-- the numbers that pass are such lines
passing_suc : (f : ℕ → Bool) (k : ℕ) → passing f (suc k) ≡ passing f k ++ cond (f k) (k ∷ []) []
unfolding passing
passing_suc f k = refl

passing_lines : (f : ℕ → Bool) (k n : ℕ) → passing f (k + n) ≡ passing f k ++ lines_from (λ p. cond (f p) (p ∷ []) []) k n
unfolding lines_from
passing_lines f k zero = ap (passing f) (omega arith) ∙ sym (append-nil (passing f k))
passing_lines f k (suc n) =
    ap (passing f) (omega arith) ∙ passing_lines f (suc k) n ∙ ap (λ (x : List ℕ). x ++ lines_from (λ p. cond (f p) (p ∷ []) []) (suc k) n) (passing_suc f k)
    ∙ append_assoc (passing f k) (cond (f k) (k ∷ []) []) (lines_from (λ p. cond (f p) (p ∷ []) []) (suc k) n)

module _ (w : List Written) (r : Rise 0 w) where
  pub places_so : labelled_places (sheet_with w) ≡ places_in w
  unfolding labelled_places passing is_labelled names_corner label_of label_of_number
  places_so = passing_lines (λ p. is_labelled (get_or (sheet_with w) p 0)) 0 16384 ∙ all_told place_if (λ p. refl) w r

  pub box_so : box_of (sheet_with w) ≡ box_around (places_in w)
  unfolding box_of
  box_so = ap box_around places_so

  pub count_so : label_count (sheet_with w) ≡ length (places_in w)
  unfolding label_count
  count_so = ap length places_so

-- ---- whether a place passes

-- a written place that passes, from n on
record Hit (test : ℕ → ℕ → Bool) (n : ℕ) (w : List Written) : Type 0 where
  place : ℕ
  from : n ≤ place
  below : place < 16384
  passes : test place (word_in w place) ≡ true

module _ (test : ℕ → ℕ → Bool) (blank : (p : ℕ) → test p 0 ≡ false) where
  hit : {n : ℕ} (w : List Written) → Rise n w → any_in test w ≡ true → Hit test n w
  unfolding any_in
  hit [] no_more e = absurd (let z : ◌≡◌ {A = ℕ} 0 1 = cc in omega arith)
  hit {n} (e ∷ es) (then l h r) a = go (test e.place e.word) refl a (hit es r)
    where
      go : (t : Bool) → test e.place e.word ≡ t → (t || any_in test es) ≡ true → (any_in test es ≡ true → Hit test (suc e.place) es) → Hit test n (e ∷ es)
      go true q b f = record { place = e.place; from = l; below = h; passes = ap (test e.place) (word_at e es e.place refl) ∙ q }
      go false q b f =
          let x = f b in
          let y = x.from in
          record { place = x.place; from = omega arith; below = x.below; passes = ap (test x.place) (word_past e es x.place (λ z. omega arith)) ∙ x.passes }

  miss : (w : List Written) → any_in test w ≡ false → (p : ℕ) → test p (word_in w p) ≡ false
  unfolding any_in word_in
  miss [] a p = blank p
  miss (e ∷ es) a p = go (test e.place e.word) refl a (λ b. miss es b p) (ℕ_discrete p e.place)
    where
      go : (t : Bool) → test e.place e.word ≡ t → (t || any_in test es) ≡ false → (any_in test es ≡ false → test p (word_in es p) ≡ false) → Dec (p ≡ e.place)
          → test p (word_in (e ∷ es) p) ≡ false
      go true q b f d = absurd (let z : ◌≡◌ {A = ℕ} 0 1 = cc in omega arith)
      go false q b f (yes d) = ap (test p) (word_at e es p d) ∙ ap (λ (i : ℕ). test i e.word) d ∙ q
      go false q b f (no d) = ap (test p) (word_past e es p d) ∙ f b

  pub any_so : (w : List Written) → Rise 0 w → any_below 16384 (λ p. test p (get_or (sheet_with w) p 0)) ≡ any_in test w
  any_so w r = any_ext (λ p. test p (get_or (sheet_with w) p 0)) (λ p. test p (word_in w p)) 16384 (λ p h. ap (test p) (word_so w p h)) ∙ go (any_in test w) refl
    where
      go : (t : Bool) → any_in test w ≡ t → any_below 16384 (λ p. test p (word_in w p)) ≡ t
      go true e = let x = hit w r e in any_hit (λ p. test p (word_in w p)) 16384 x.place x.below x.passes
      go false e = any_no (λ p. test p (word_in w p)) 16384 (λ p h. miss w e p)

module _ (w : List Written) (r : Rise 0 w) where
  pub used_so : (k : ℕ) → used_on (sheet_with w) k ≡ used_in w k
  unfolding used_on names label_of label_of_number
  used_so k = any_so (λ p v. names k (label_of v)) (λ p. refl) w r

  pub rim_so : (depth : ℕ) → rim depth (sheet_with w) ≡ rim_in depth w
  unfolding rim rim_at is_labelled names_corner label_of label_of_number
  rim_so depth = any_so (λ p v. rim_at depth v p) (λ p. refl) w r
