-- The turns of the writer: the digits of a number, an integer, what is written for a byte of a form, and the whole line. Assumes nothing.
use mathlib.Core.Path.{◌≡◌, refl, sym, ap, ap₂, ◌∙◌}
use mathlib.Core.Bool.{Bool, true, false, cond}
use mathlib.Core.List.{List, [], ◌∷◌, ◌++◌, append_assoc, append-nil}
use Prim.Native.Nat.{ℕ, zero, suc, ◌+◌, ◌-◌, ◌*◌, ◌/◌, ◌%◌, ◌^◌, ◌≤◌, ◌<◌}
use native.Mathlib.Nat.{not-suc-le-zero, add-zero, pow-suc}
use native.Mathlib.Numerals.{add-one}
use native.Mathlib.Omega.{arith}
use borrow.Author.Tests.{lt-ltb, le-ltb, ltb-true, ltb-false, eq-eqb, ne_eqb}
use borrow.Rule.Slice.PartMut.{put_mid}
use lib.Dec.{ltb}
use lib.ListN.{length, get_or, take, drop, set, length-append, length-take, length-drop, length-set, take-append-drop, drop_of_length-le}
use lib.Seq.{drop-cons, drop-drop, drop_at, take_at, drop-set-lt, get_or-set_same, get_or-drop, length-take-le}
use Rattle.binary32.specs.Hex.{hex_text}
use Rattle.binary32.proofs.Digits.{digits_length}
use Rattle.std.proofs.Common.{Option, None, Some}
use Rattle.std.specs.Option.{MatchOption, IfNone, IfSome}
use Rattle.line_form.specs.Integers.{decimal, integer_text, negated}
use Rattle.line_form.specs.Forms.{number_text, is_slot, first_text, printed}
use Rattle.line_form.specs.Lengths.{DigitCount}
use Rattle.line_form.specs.Written.{unheld_whole, unheld_number, unheld, form_text, piece_text, Wrote}
use Rattle.line_form.proofs.Decimal.{one_digit, more_digits, decimal_length}
use Rattle.line_form.proofs.Reading.{part, front_of}

-- ---- how many digits

one_length : (n : ℕ) → n < 10 → length (decimal n) ≡ 1
one_length n h = ap length (one_digit n h)

more_length : (n : ℕ) → 10 ≤ n → length (decimal n) ≡ length (decimal (n / 10)) + 1
more_length n h = ap length (more_digits n h) ∙ length-append (decimal (n / 10)) ((48 + n % 10) ∷ [])

power_pos : (k : ℕ) → 0 < 10 ^ k
power_pos zero = omega arith
power_pos (suc k) = omega (arith, pow-suc 10 k, power_pos k)

-- a number from 10 ^ k up and below 10 times that has k + 1 digits
length_by_power : (k n : ℕ) → 10 ^ k ≤ n → n < 10 * 10 ^ k → length (decimal n) ≡ k + 1
length_by_power zero n l h = one_length n (omega (arith, h))
length_by_power (suc k) n l h =
    more_length n (omega (arith, l, pow-suc 10 k, power_pos k)) ∙ ap (λ (m : ℕ). m + 1) (length_by_power k (n / 10) (omega (arith, l, pow-suc 10 k)) (omega (arith, h, pow-suc 10 k)) ∙ omega arith)

pub counted : (n r : ℕ) (power : Option ℕ) → n < 2 ^ 64 → IfNone power (n ≡ 0) → IfSome power (λ k. 10 ^ k ≤ n) → IfSome power (λ k. n < 10 * 10 ^ k)
    → MatchOption power (r ≡ 1) (λ k. r ≡ k + 1) → DigitCount n r
counted n r power s z l h e = record { is = is; few = omega (arith, is, decimal_length 19 n (omega (arith, s))) }
  where
    go : (power : Option ℕ) → IfNone power (n ≡ 0) → IfSome power (λ k. 10 ^ k ≤ n) → IfSome power (λ k. n < 10 * 10 ^ k) → MatchOption power (r ≡ 1) (λ k. r ≡ k + 1)
        → r ≡ length (decimal n)
    go None z l h e = e ∙ sym (one_length n (omega (arith, z)))
    go (Some k) z l h e = e ∙ sym (length_by_power k n l h)

    is : r ≡ length (decimal n)
    is = go power z l h e

-- ---- the digits, the last first

-- the last i digits of n
unfoldable pub last_digits : ℕ → ℕ → List ℕ
last_digits zero n = []
last_digits (suc i) n = last_digits i (n / 10) ++ ((48 + n % 10) ∷ [])

all_digits : (f n : ℕ) → n < f → last_digits (length (decimal n)) n ≡ decimal n
unfolding last_digits
all_digits zero n h = absurd (not-suc-le-zero h)
all_digits (suc f) n h = go (ltb n 10) refl (λ l. all_digits f (n / 10) l)
  where
    go : (t : Bool) → ltb n 10 ≡ t → (n / 10 < f → last_digits (length (decimal (n / 10))) (n / 10) ≡ decimal (n / 10)) → last_digits (length (decimal n)) n ≡ decimal n
    go true e ih =
        let l = ltb-true n 10 e in
        let d : n % 10 ≡ n = omega arith in
        rw (one_digit n l, d)
    go false e ih =
        let l = ltb-false n 10 e in
        ap (λ (i : ℕ). last_digits i n) (more_length n l ∙ add-one (length (decimal (n / 10))))
        ∙ ap (λ (s : List ℕ). s ++ ((48 + n % 10) ∷ [])) (ih (omega arith))
        ∙ sym (more_digits n l)

drop_set : (out : List ℕ) (j d : ℕ) → j < length out → drop j (set out j d) ≡ d ∷ drop (suc j) out
drop_set out j d h =
    drop-cons (set out j d) j 0 (rw (length-set out j d) h)
    ∙ ap₂ (λ (a : ℕ) (s : List ℕ). a ∷ s) (get_or-set_same out j d 0 h) (drop-set-lt (suc j) out j d (omega arith))

-- the digits of n, of which the first i, those of m, are still to be written over what the part held
pub record Placing (n : ℕ) (old out : List ℕ) (m i : ℕ) : Type 0 where
  pub room : length (decimal n) ≤ length old
  pub sized : length out ≡ length old
  pub within : i ≤ length (decimal n)
  pub rest : last_digits i m ++ drop i out ≡ decimal n ++ drop (length (decimal n)) old

pub none_placed : (n count : ℕ) (old : List ℕ) → length (decimal n) ≤ length old → count ≡ length (decimal n) → Placing n old old n count
none_placed n count old h e =
    record {
      room = h;
      sized = refl;
      within = omega arith;
      rest = rw e (ap (λ (s : List ℕ). s ++ drop (length (decimal n)) old) (all_digits (suc n) n (omega arith)));
    }

module _ (n : ℕ) (old out : List ℕ) (m i : ℕ) (g : Placing n old out m i) where
  pub place_room : 0 < i → i - 1 < length out
  place_room h = omega (arith, g.room, g.sized, g.within)

  pub one_placed : 0 < i → (d : ℕ) → d ≡ 48 + m % 10 → Placing n old (set out (i - 1) d) (m / 10) (i - 1)
  unfolding last_digits
  one_placed h d e =
      let j = i - 1 in
      let s : i ≡ suc j = omega arith in
      record {
        room = g.room;
        sized = length-set out j d ∙ g.sized;
        within = omega (arith, g.within);
        rest =
            ap (λ (t : List ℕ). last_digits j (m / 10) ++ t) (drop_set out j d (place_room h) ∙ ap (λ (a : ℕ). a ∷ drop (suc j) out) e)
            ∙ sym (append_assoc (last_digits j (m / 10)) ((48 + m % 10) ∷ []) (drop (suc j) out))
            ∙ ap (λ (k : ℕ). last_digits k m ++ drop k out) (sym s)
            ∙ g.rest;
      }

  pub all_placed : i ≤ 0 → (count : ℕ) → count ≡ length (decimal n) → Wrote (decimal n) old out count
  unfolding last_digits
  all_placed h count e =
      let z : i ≡ 0 = omega arith in
      record { count = e; part = ap (λ (k : ℕ). last_digits k m ++ drop k out) (sym z) ∙ g.rest }

-- ---- integers

below_text : (w : ℕ) → w < 1000000 → integer_text (unheld_whole w) ≡ 45 ∷ decimal (1000000 - w)
unfolding unheld_whole integer_text
below_text w h = rw (lt-ltb w 1000000 h) (go (1000000 - w) (omega arith))
  where
    go : (n : ℕ) → 0 < n → integer_text (negated n) ≡ 45 ∷ decimal n
    go zero l = absurd (not-suc-le-zero l)
    go (suc n) l = refl

above_text : (w : ℕ) → 1000000 ≤ w → integer_text (unheld_whole w) ≡ decimal (w - 1000000)
unfolding unheld_whole integer_text
above_text w h = rw (le-ltb w 1000000 h)

-- ---- one byte of a form

module _ (c : ℕ) where
  float_text : (w : ℕ) → c ≡ 37 → piece_text c w ≡ hex_text w
  unfolding piece_text unheld_number number_text
  float_text w h = rw (eq-eqb c 37 h)

  whole_text : (w : ℕ) → (c ≡ 37 → ⊥) → c ≡ 35 → piece_text c w ≡ integer_text (unheld_whole w)
  unfolding piece_text unheld_number number_text
  whole_text w h k = rw (ne_eqb c 37 h, eq-eqb c 35 k)

  byte_text : (w : ℕ) → (c ≡ 37 → ⊥) → (c ≡ 35 → ⊥) → piece_text c w ≡ c ∷ []
  unfolding piece_text
  byte_text w h k = rw (ne_eqb c 37 h, ne_eqb c 35 k)

-- ---- a part of a buffer

-- what a buffer holds after its part from a on was lent and written
pub put_back : (out new : List ℕ) (a : ℕ) → put_mid a (length out - a) out new ≡ take a out ++ new
put_back out new a = ap (λ (s : List ℕ). take a out ++ (new ++ s)) none ∙ ap (λ (s : List ℕ). take a out ++ s) (append-nil new)
  where
    none : drop (length out - a) (drop a out) ≡ []
    none = drop_of_length-le (drop a out) {i = length out - a} (rw (length-drop a out) (omega arith))

pub wrote_length : (text old new : List ℕ) (n : ℕ) → Wrote text old new n → length text ≤ length old → length new ≡ length old
wrote_length text old new n w h = ap length w.part ∙ simp (length-append, length-drop) (omega arith)

-- ---- integers written

module _ (w : ℕ) (old : List ℕ) (room : length (integer_text (unheld_whole w)) ≤ length old) where
  module _ (h : w < 1000000) where
    pub minus_room : length (decimal (1000000 - w)) + 1 ≤ length old
    minus_room = omega (arith, room, ap length (below_text w h))

    pub minus_part : length (decimal (1000000 - w)) ≤ length (take (length (set old 0 45) - 1) (drop 1 (set old 0 45)))
    minus_part = rw (part (set old 0 45) 1, length-drop 1 (set old 0 45), length-set old 0 45) (omega (arith, minus_room))

    pub minus_written : (new : List ℕ) (n : ℕ) → Wrote (decimal (1000000 - w)) (take (length (set old 0 45) - 1) (drop 1 (set old 0 45))) new n
        → Wrote (integer_text (unheld_whole w)) old (put_mid 1 (length (set old 0 45) - 1) (set old 0 45) new) (n + 1)
    minus_written new n r = go old minus_room r
      where
        go : (old : List ℕ) → length (decimal (1000000 - w)) + 1 ≤ length old → Wrote (decimal (1000000 - w)) (take (length (set old 0 45) - 1) (drop 1 (set old 0 45))) new n
            → Wrote (integer_text (unheld_whole w)) old (put_mid 1 (length (set old 0 45) - 1) (set old 0 45) new) (n + 1)
        go [] l k = absurd (omega arith)
        go (b ∷ old) l k =
            record {
              count = rw (below_text w h) (omega (arith, k.count));
              part =
                  put_back (45 ∷ old) new 1
                  ∙ ap (λ (s : List ℕ). 45 ∷ s) (k.part ∙ ap (λ (s : List ℕ). decimal (1000000 - w) ++ drop (length (decimal (1000000 - w))) s) (part (45 ∷ old) 1))
                  ∙ ap (λ (s : List ℕ). s ++ drop (length s) (b ∷ old)) (sym (below_text w h));
            }

  module _ (h : 1000000 ≤ w) where
    pub plus_room : length (decimal (w - 1000000)) ≤ length old
    plus_room = omega (arith, room, ap length (above_text w h))

    pub plus_written : (new : List ℕ) (n : ℕ) → Wrote (decimal (w - 1000000)) old new n → Wrote (integer_text (unheld_whole w)) old new n
    plus_written new n r = rw (above_text w h) r

-- ---- one byte of a form written

module _ (c w : ℕ) (old : List ℕ) (room : length (piece_text c w) ≤ length old) where
  pub float_fits : c ≡ 37 → 8 ≤ length old
  float_fits h = omega (arith, room, ap length (float_text c w h), digits_length 8 w)

  pub float_written : c ≡ 37 → (new : List ℕ) → new ≡ hex_text w ++ drop 8 old → Wrote (piece_text c w) old new 8
  float_written h new e =
      rw (float_text c w h) (record { count = sym (digits_length 8 w); part = e ∙ ap (λ (k : ℕ). hex_text w ++ drop k old) (sym (digits_length 8 w)) })

  module _ (f : c ≡ 37 → ⊥) where
    pub whole_fits : c ≡ 35 → length (integer_text (unheld_whole w)) ≤ length old
    whole_fits h = omega (arith, room, ap length (whole_text c w f h))

    pub whole_written : c ≡ 35 → (new : List ℕ) (n : ℕ) → Wrote (integer_text (unheld_whole w)) old new n → Wrote (piece_text c w) old new n
    whole_written h new n r = rw (whole_text c w f h) r

    pub byte_fits : (c ≡ 35 → ⊥) → 0 < length old
    byte_fits h = omega (arith, room, ap length (byte_text c w f h))

    pub byte_written : (c ≡ 35 → ⊥) → Wrote (piece_text c w) old (set old 0 c) 1
    byte_written h = rw (byte_text c w f h) (go old (byte_fits h))
      where
        go : (old : List ℕ) → 0 < length old → Wrote (c ∷ []) old (set old 0 c) 1
        go [] l = absurd (not-suc-le-zero l)
        go (b ∷ old) l = record { count = refl; part = refl }

-- ---- the whole line

-- the text of a form: that of its first byte, then that of the others
text_turn : (c : ℕ) (form ws : List ℕ) → form_text (c ∷ form) ws ≡ piece_text c (get_or ws 0 0) ++ form_text form (drop (cond (is_slot c) 1 0) ws)
unfolding form_text piece_text unheld printed
text_turn c form ws = go (is_slot c)
  where
    go : (t : Bool) → cond t (first_text (cond t (unheld_number c (get_or ws 0 0) ∷ []) [] ++ unheld form (cond t (drop 1 ws) ws))) (c ∷ [])
        ++ printed form (cond t (drop 1 (cond t (unheld_number c (get_or ws 0 0) ∷ []) [] ++ unheld form (cond t (drop 1 ws) ws))) (cond t (unheld_number c (get_or ws 0 0) ∷ []) [] ++ unheld form (cond t (drop 1 ws) ws)))
        ≡ cond t (number_text (unheld_number c (get_or ws 0 0))) (c ∷ []) ++ printed form (unheld form (drop (cond t 1 0) ws))
    go true = refl
    go false = refl

nothing : (ws : List ℕ) → [] ≡ form_text [] ws
unfolding form_text printed
nothing ws = refl

one_word : (t : Bool) (m : ℕ) → m ≡ cond t 1 0 → m ≤ 1
one_word true m e = omega arith
one_word false m e = omega arith

-- a form of which i bytes are written, up to `at`, with k words, over what the part held
pub record Filling (form ws old out : List ℕ) (i at k : ℕ) : Type 0 where
  pub room : length (form_text form ws) ≤ length old
  pub sized : length out ≡ length old
  pub within : i ≤ length form
  pub few : k ≤ i
  pub inside : at ≤ length out
  pub done : take at out ++ form_text (drop i form) (drop k ws) ≡ form_text form ws
  pub rest : drop at out ≡ drop at old

pub fill_begun : (form ws old : List ℕ) → length (form_text form ws) ≤ length old → Filling form ws old old 0 0 0
fill_begun form ws old h = record { room = h; sized = refl; within = omega arith; few = omega arith; inside = omega arith; done = refl; rest = refl }

module _ (form ws old out : List ℕ) (i at k : ℕ) (g : Filling form ws old out i at k) where
  module _ (h : i < length form) (w : ℕ) (v : w ≡ get_or ws k 0) where
    abbrev piece : List ℕ
    piece = piece_text (get_or form i 0) w

    abbrev later : List ℕ
    later = form_text (drop (i + 1) form) (drop (k + cond (is_slot (get_or form i 0)) 1 0) ws)

    split : form_text (drop i form) (drop k ws) ≡ piece ++ later
    split =
        ap (λ (s : List ℕ). form_text s (drop k ws)) (front_of form i h)
        ∙ text_turn (get_or form i 0) (drop (i + 1) form) (drop k ws)
        ∙ ap₂ (λ (a : ℕ) (s : List ℕ). piece_text (get_or form i 0) a ++ form_text (drop (i + 1) form) s) (first k ws v) (drop-drop (cond (is_slot (get_or form i 0)) 1 0) k ws)
      where
        first : (k : ℕ) (ws : List ℕ) → w ≡ get_or ws k 0 → get_or (drop k ws) 0 0 ≡ w
        first k ws e = get_or-drop k ws 0 0 ∙ ap (λ (j : ℕ). get_or ws j 0) (add-zero k) ∙ sym e

    pub piece_room : at + length piece ≤ length out
    piece_room =
        omega
        (arith, g.room, g.sized, g.inside, ap length g.done, length-append (take at out) (form_text (drop i form) (drop k ws)), length-take at out, ap length split, length-append piece later)

    pub piece_part : length piece ≤ length (take (length out - at) (drop at out))
    piece_part = rw (part out at, length-drop at out) (omega (arith, piece_room))

    pub piece_written_lem : (new : List ℕ) (n m : ℕ) → Wrote piece (take (length out - at) (drop at out)) new n → m ≡ cond (is_slot (get_or form i 0)) 1 0
        → Filling form ws old (put_mid at (length out - at) out new) (i + 1) (at + n) (k + m)
    piece_written_lem new n m r e =
        let behind = drop (length piece) (drop at out) in
        let ahead = take at out ++ piece in
        let whole : put_mid at (length out - at) out new ≡ ahead ++ behind =
        put_back out new at
        ∙ ap (λ (s : List ℕ). take at out ++ s) (r.part ∙ ap (λ (s : List ℕ). piece ++ drop (length piece) s) (part out at))
        ∙ sym (append_assoc (take at out) piece behind) in
        let front : length ahead ≡ at + n = length-append (take at out) piece ∙ ap₂ (λ (a b : ℕ). a + b) (length-take-le at out g.inside) (sym r.count) in
        let size : length (ahead ++ behind) ≡ length out =
        length-append ahead behind ∙ ap₂ (λ (a b : ℕ). a + b) front (length-drop (length piece) (drop at out) ∙ ap (λ (b : ℕ). b - length piece) (length-drop at out))
        ∙ left (length out) at n (length piece) r.count piece_room in
        record {
          room = g.room;
          sized = ap length whole ∙ size ∙ g.sized;
          within = omega arith;
          few = omega (arith, g.few, one_word (is_slot (get_or form i 0)) m e);
          inside = omega (arith, ap length whole, size, r.count, piece_room);
          done =
              ap₂ (λ (a : List ℕ) (j : ℕ). a ++ form_text (drop (i + 1) form) (drop (k + j) ws)) (ap (take (at + n)) whole ∙ take_at ahead behind (at + n) front) e
              ∙ append_assoc (take at out) piece later
              ∙ ap (λ (s : List ℕ). take at out ++ s) (sym split)
              ∙ g.done;
          rest =
              ap (drop (at + n)) whole ∙ drop_at ahead behind (at + n) front ∙ ap (drop (length piece)) g.rest ∙ drop-drop (length piece) at old
              ∙ ap (λ (j : ℕ). drop (at + j) old) (sym r.count);
        }
      where
        left : (size at n p : ℕ) → n ≡ p → at + p ≤ size → at + n + (size - at - p) ≡ size
        left size at n p e l = omega arith

  pub all_written : length form ≤ i → Wrote (form_text form ws) old out at
  all_written h =
      let text : take at out ≡ form_text form ws =
      sym (append-nil (take at out)) ∙ ap (λ (s : List ℕ). take at out ++ s) (nothing (drop k ws) ∙ ap (λ (s : List ℕ). form_text s (drop k ws)) (sym (drop_of_length-le form h))) ∙ g.done in
      let count : at ≡ length (form_text form ws) = sym (length-take-le at out g.inside) ∙ ap length text in
      record {
        count = count;
        part = sym (take-append-drop at out) ∙ ap₂ (λ (a b : List ℕ). a ++ b) text (g.rest ∙ ap (λ (j : ℕ). drop j old) count);
      }
