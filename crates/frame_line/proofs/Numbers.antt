-- The checks of the words that hold a line's numbers are those of the numbers: the letters of a row and the slots of its form agree, by one
-- test that antt computes over all rows. Assumes nothing.
use mathlib.Core.Path.{◌≡◌, refl, sym, ap, ap₂, subst, ◌∙◌}
use mathlib.Core.Bool.{Bool, true, false, not, ◌&&◌, ◌||◌, true≢false, or_assoc, or_comm, cond}
use mathlib.Core.List.{List, [], ◌∷◌}
use Prim.Native.Nat.{ℕ, zero, suc, ◌+◌, ◌-◌, ◌<◌, ◌≤◌, min}
use native.Mathlib.Nat.{not-suc-le-zero, add-zero, zero-add, add-suc, suc-add}
use native.Mathlib.Omega.{arith}
use borrow.Author.Tests.{eqb-true, lt-ltb, le-ltb, le-leb, ltb-true, ltb-false, leb-true, leb-false}
use lib.Dec.{eqb, ltb, leb}
use lib.IntN.{ℤ, pos, negsuc}
use lib.Signed.{le_z, lt_z}
use lib.ListN.{get_or}
use Rattle.std.proofs.Common.{Option, None, Some}
use Rattle.refusal.specs.Refusal.{number_of}
use Rattle.roles.specs.Roles.{role_number}
use Rattle.labels.specs.Labelled.{any_below}
use Rattle.labels.proofs.Below.{both}
use Rattle.arguments.proofs.Chains.{or_false_both}
use Rattle.line_form.specs.Forms.{Number, bits, whole, is_slot, Suits, none_left, a_float, an_integer, a_byte}
use Rattle.line_form.specs.Held.{held_whole, held, held_up_to}
use Rattle.line_form.specs.Written.{unheld_whole}
use Rattle.line_form.proofs.Every.{every_at}
use Rattle.frame_line.specs.Table.{rows, row_count, row_at, kind_at, form_at, letters_at, sort_of, sort_at}
use Rattle.frame_line.specs.Lines.{Line, kind_of, Proper, bits_at, whole_at}
use Rattle.frame_line.specs.Checks.{wild_whole, number_outside, some_outside, outside_line}
use Rattle.frame_line.specs.Held.{held_line, beyond, outside_word, outside_held}
use Rattle.frame_line.specs.declared.Kind.{Kind}
use Rattle.frame_line.specs.declared.OpeningKind.{OpeningKind}
use Rattle.frame_line.specs.declared.PassKind.{PassKind}
use Rattle.frame_line.specs.declared.Sort.{Sort}

-- ---- integers and the words that hold them

-- a test of a word is the opposite of one of its integer, where both are told by orders
flip : (a b c d : ℕ) → (d < c → a < b) → (c ≤ d → b ≤ a) → ltb a b ≡ not (leb c d)
flip a b c d yes-so no-so = go (leb c d) refl
  where
    go : (t : Bool) → leb c d ≡ t → ltb a b ≡ not t
    go true e = le-ltb a b (no-so (leb-true c d e))
    go false e = lt-ltb a b (yes-so (leb-false c d e))

below_is : (w : ℕ) (z : ℤ) → 0 < w → w ≤ 1000000 → ltb (held_whole z) w ≡ not (le_z (unheld_whole w) z)
unfolding held_whole unheld_whole
below_is w z h l = go (ltb w 1000000) refl z
  where
    low : w < 1000000 → 1000000 - w ≡ suc (999999 - w)
    low s = omega arith

    go : (t : Bool) → ltb w 1000000 ≡ t → (z : ℤ) → ltb (held_whole z) w ≡ not (le_z (unheld_whole w) z)
    go true e (pos n) = let s = ltb-true w 1000000 e in rw (e, low s) (le-ltb (1000000 + min 1000000 n) w (omega arith))
    go true e (negsuc n) = let s = ltb-true w 1000000 e in rw (e, low s) (flip (1000000 - suc n) w n (999999 - w) (λ k. omega arith) (λ k. omega arith))
    go false e (pos n) = rw e (flip (1000000 + min 1000000 n) w (w - 1000000) n (λ k. omega arith) (λ k. omega arith))
    go false e (negsuc n) = rw e (lt-ltb (1000000 - suc n) w (omega (arith, ltb-false w 1000000 e)))

above_is : (w : ℕ) (z : ℤ) → 1000000 ≤ w → w < 2000000 → ltb w (held_whole z) ≡ not (le_z z (unheld_whole w))
unfolding held_whole unheld_whole
above_is w (pos n) h l = rw (le-ltb w 1000000 h) (flip w (1000000 + min 1000000 n) n (w - 1000000) (λ k. omega arith) (λ k. omega arith))
above_is w (negsuc n) h l = rw (le-ltb w 1000000 h) (le-ltb w (1000000 - suc n) (omega arith))

neither : (a b : Bool) → (not a || not b) ≡ not (a && b)
neither true b = refl
neither false b = refl

-- a range that holds 0
abbrev pub ranged : ℕ → ℕ → Bool
ranged low high = ltb 0 low && (leb low 1000000 && (leb 1000000 high && ltb high 2000000))

pub beyond_is : (low high : ℕ) (z : ℤ) → ranged low high ≡ true → beyond low high (held_whole z) ≡ wild_whole (unheld_whole low) (unheld_whole high) z
beyond_is low high z e =
    let a = both (ltb 0 low) (leb low 1000000 && (leb 1000000 high && ltb high 2000000)) e in
    let b = both (leb low 1000000) (leb 1000000 high && ltb high 2000000) a.1 in
    let c = both (leb 1000000 high) (ltb high 2000000) b.1 in
    ap₂ ◌||◌ (below_is low z (ltb-true 0 low a.0) (leb-true low 1000000 b.0))
    (above_is high z (leb-true 1000000 high c.0) (ltb-true high 2000000 c.1))
    ∙ neither (le_z (unheld_whole low) z) (le_z z (unheld_whole high))

corner_is : (c : ℕ) (z : ℤ) → c ≤ 1024 → beyond 1000000 (999999 + c) (held_whole z) ≡ not (le_z (pos 0) z && lt_z z (pos c))
unfolding held_whole
corner_is c (pos n) h =
    rw (le-ltb (1000000 + min 1000000 n) 1000000 (omega arith), le-leb 0 n (omega arith))
    (flip (999999 + c) (1000000 + min 1000000 n) (suc n) c (λ k. omega arith) (λ k. omega arith))
corner_is c (negsuc n) h = rw (lt-ltb (1000000 - suc n) 1000000 (omega arith))

-- ---- the sort of a number and its slot: true for a float

abbrev suits_slot : Bool → Option Sort → Bool
suits_slot b None = false
suits_slot b (Some (Sort.Float q)) = b
suits_slot true (Some (Sort.Whole refusal low high)) = false
suits_slot false (Some (Sort.Whole refusal low high)) = ranged low high
suits_slot b (Some Sort.Corner) = not b

no_sort : {A : Type 0} → false ≡ true → A
no_sort e = absurd (true≢false (sym e))

-- of a corner's number it is asked that few corners are given
module _ (r n : ℕ) (few : eqb r 5 ≡ true → n ≤ 1024) where
  float_word : (s : Option Sort) (b : ℕ) → suits_slot true s ≡ true → outside_word r n s b ≡ number_outside r n s (bits b)
  unfolding outside_word number_outside
  float_word None b e = refl
  float_word (Some (Sort.Float q)) b e = refl
  float_word (Some (Sort.Whole refusal low high)) b e = no_sort e
  float_word (Some Sort.Corner) b e = no_sort e

  whole_word : (s : Option Sort) (z : ℤ) → suits_slot false s ≡ true → outside_word r n s (held_whole z) ≡ number_outside r n s (whole z)
  unfolding outside_word number_outside
  whole_word None z e = refl
  whole_word (Some (Sort.Float q)) z e = no_sort e
  whole_word (Some (Sort.Whole refusal low high)) z e = ap (λ (t : Bool). eqb r (number_of refusal) && t) (beyond_is low high z e)
  whole_word (Some Sort.Corner) z e = go (eqb r 5) refl
    where
      go : (t : Bool) → eqb r 5 ≡ t → (t && beyond 1000000 (999999 + n) (held_whole z)) ≡ (t && not (le_z (pos 0) z && lt_z z (pos n)))
      go true f = corner_is n z (few f)
      go false f = refl

  -- byte 46, the dot, stands for no number
  nothing_word : (k m w : ℕ) → eqb (get_or (letters_at k) m 46) 46 ≡ true → outside_word r n (sort_at k m) w ≡ false
  unfolding outside_word sort_at sort_of
  nothing_word k m w e = rw (eqb-true (get_or (letters_at k) m 46) 46 e) refl

-- ---- the letters of a row and the slots of its form

-- the slots of a form, in order
unfoldable pub slots_of : List ℕ → List Bool
slots_of [] = []
slots_of (c ∷ form) = cond (eqb c 37) (true ∷ slots_of form) (cond (eqb c 35) (false ∷ slots_of form) (slots_of form))

-- the sorts of row k from m on, n of them: one that suits each slot, and nothing behind the last
unfoldable agrees : ℕ → ℕ → ℕ → List Bool → Bool
agrees k m zero [] = true
agrees k m zero (b ∷ bs) = false
agrees k m (suc n) [] = eqb (get_or (letters_at k) m 46) 46 && agrees k (suc m) n []
agrees k m (suc n) (b ∷ bs) = suits_slot b (sort_at k m) && agrees k (suc m) n bs

agree_at : (k : ℕ) → k < row_count → agrees k 0 5 (slots_of (form_at k)) ≡ true
unfolding agrees slots_of sort_at sort_of form_at row_at rows
agree_at k h = every_at (λ j. agrees j 0 5 (slots_of (form_at j))) row_count refl k h

pub data OfSlots : List Bool → List Number → Type 0 where
  no_number : OfSlots [] []
  float_first : {bs : List Bool} {ns : List Number} (b : ℕ) → OfSlots bs ns → OfSlots (true ∷ bs) (bits b ∷ ns)
  whole_first : {bs : List Bool} {ns : List Number} (z : ℤ) → OfSlots bs ns → OfSlots (false ∷ bs) (whole z ∷ ns)

no_slot : (c : ℕ) (form : List ℕ) → is_slot c ≡ false → slots_of form ≡ slots_of (c ∷ form)
unfolding slots_of
no_slot c form e = let t = or_false_both (eqb c 37) (eqb c 35) e in rw (t.0, t.1)

pub of_slots : {form : List ℕ} {ns : List Number} → Suits form ns → OfSlots (slots_of form) ns
unfolding slots_of
of_slots none_left = no_number
of_slots (a_float b small s) = float_first b (of_slots s)
of_slots (an_integer z s) = whole_first z (of_slots s)
of_slots (a_byte {form} {ns} c e s) = subst (λ (bs : List Bool). OfSlots bs ns) (no_slot c form e) (of_slots s)

-- ---- the first of some tests, looked at first

any_first : (n : ℕ) (f : ℕ → Bool) → any_below (suc n) f ≡ (f 0 || any_below n (λ i. f (suc i)))
unfolding any_below
any_first zero f = refl
any_first (suc n) f =
    ap (λ (u : Bool). f (suc n) || u) (any_first n f) ∙ sym (or_assoc (f (suc n)) (f 0) _)
    ∙ ap (λ (u : Bool). u || any_below n (λ i. f (suc i))) (or_comm (f (suc n)) (f 0)) ∙ or_assoc (f 0) (f (suc n)) _

-- ---- the law

module _ (r n : ℕ) (few : eqb r 5 ≡ true → n ≤ 1024) (k : ℕ) where
  -- the numbers of row k from m on
  abbrev word_test : ℕ → List ℕ → ℕ → Bool
  word_test m ws i = outside_word r n (sort_at k (m + i)) (get_or ws i 0)

  -- one number and its word more
  step : (m j w : ℕ) (ws : List ℕ) {t u : Bool} → outside_word r n (sort_at k m) w ≡ t → any_below j (word_test (suc m) ws) ≡ u
      → any_below (suc j) (word_test m (w ∷ ws)) ≡ (t || u)
  step m j w ws e f =
      any_first j (word_test m (w ∷ ws))
      ∙ ap₂ ◌||◌ (ap (λ (a : ℕ). outside_word r n (sort_at k a) w) (add-zero m) ∙ e)
      ((λ t. any_below j (λ i. outside_word r n (sort_at k ((add-suc m i ∙ sym (suc-add m i)) t)) (get_or ws i 0))) ∙ f)

  words_are : (m j : ℕ) {bs : List Bool} {ns : List Number} → OfSlots bs ns → agrees k m j bs ≡ true
      → any_below j (word_test m (held_up_to j ns)) ≡ some_outside r n k m ns
  unfolding agrees some_outside held_up_to held any_below
  words_are m zero no_number e = refl
  words_are m zero (float_first b o) e = no_sort e
  words_are m zero (whole_first z o) e = no_sort e
  words_are m (suc j) no_number e =
      let t = both (eqb (get_or (letters_at k) m 46) 46) (agrees k (suc m) j []) e in
      step m j 0 (held_up_to j []) (nothing_word r n few k m 0 t.0) (words_are (suc m) j no_number t.1)
  words_are m (suc j) (float_first {bs} {ns} b o) e =
      let t = both (suits_slot true (sort_at k m)) (agrees k (suc m) j bs) e in
      step m j b (held_up_to j ns) (float_word r n few (sort_at k m) b t.0) (words_are (suc m) j o t.1)
  words_are m (suc j) (whole_first {bs} {ns} z o) e =
      let t = both (suits_slot false (sort_at k m)) (agrees k (suc m) j bs) e in
      step m j (held_whole z) (held_up_to j ns) (whole_word r n few (sort_at k m) z t.0) (words_are (suc m) j o t.1)

-- what the code finds of the words is what the definition says of the numbers
pub outside_is : (r n : ℕ) (l : Line) → (eqb r 5 ≡ true → n ≤ 1024) → Proper l → outside_held r n (held_line l) ≡ outside_line r n l
unfolding outside_held outside_line
outside_is r n l few p =
    (λ t. any_below 5 (λ i. outside_word r n (sort_at l.row (sym (zero-add i) t)) (get_or (held_up_to 5 l.numbers) i 0)))
    ∙ words_are r n few l.row 0 5 (of_slots p.suits) (agree_at l.row p.few)

pub outside_held_lem : (number corners : ℕ) (l : Line) → corners ≤ 1024 → Proper l → outside_held number corners (held_line l) ≡ outside_line number corners l
outside_held_lem number corners l few p = outside_is number corners l (λ e. few) p

-- ---- a kind has one row, and so the numbers that the row's form has

abbrev pub row_of : Kind → ℕ
row_of (Kind.Opening OpeningKind.Frame) = 0
row_of (Kind.Opening OpeningKind.CellSize) = 1
row_of (Kind.Opening OpeningKind.Axes) = 2
row_of (Kind.Opening OpeningKind.Band) = 3
row_of Kind.Corner = 4
row_of Kind.Label = 5
row_of (Kind.Pass PassKind.BareGrow) = 6
row_of (Kind.Pass PassKind.Grow) = 7
row_of (Kind.Pass PassKind.BareFill) = 8
row_of (Kind.Pass PassKind.Fill) = 9
row_of (Kind.Pass PassKind.Local) = 10
row_of Kind.Shade = 11
row_of Kind.Patch = 12
row_of (Kind.As r) = 13 + role_number r

pub row_of_lem : (k : ℕ) (kind : Kind) → k < row_count → kind_at k ≡ kind → k ≡ row_of kind
unfolding kind_at
row_of_lem k kind h e = eqb-true k (row_of (kind_at k)) (every_at (λ j. eqb j (row_of (kind_at j))) row_count refl k h) ∙ ap row_of e

-- a number's word, by its slot
word_at : (n m : ℕ) {bs : List Bool} {ns : List Number} → OfSlots bs ns → m < n
    → get_or (held_up_to n ns) m 0 ≡ cond (get_or bs m true) (bits_at m ns) (held_whole (whole_at m ns))
unfolding held_up_to held bits_at whole_at
word_at zero m o h = absurd (not-suc-le-zero h)
word_at (suc n) zero no_number h = refl
word_at (suc n) (suc m) no_number h = word_at n m no_number (omega arith)
word_at (suc n) zero (float_first b o) h = refl
word_at (suc n) (suc m) (float_first b o) h = word_at n m o (omega arith)
word_at (suc n) zero (whole_first z o) h = refl
word_at (suc n) (suc m) (whole_first z o) h = word_at n m o (omega arith)

module _ (l : Line) (p : Proper l) (kind : Kind) (e : kind_of l ≡ kind) where
  kind_slots : OfSlots (slots_of (form_at (row_of kind))) l.numbers
  kind_slots = subst (λ (k : ℕ). OfSlots (slots_of (form_at k)) l.numbers) (row_of_lem l.row kind p.few e) (of_slots p.suits)

  pub bits_held : (m : ℕ) → m < 5 → get_or (slots_of (form_at (row_of kind))) m true ≡ true → get_or (held_up_to 5 l.numbers) m 0 ≡ bits_at m l.numbers
  bits_held m h s = rw s at (word_at 5 m kind_slots h)

  pub whole_held : (m : ℕ) → m < 5 → get_or (slots_of (form_at (row_of kind))) m true ≡ false
      → get_or (held_up_to 5 l.numbers) m 0 ≡ held_whole (whole_at m l.numbers)
  whole_held m h s = rw s at (word_at 5 m kind_slots h)
