-- The turns of the reader: digits, integers, what stands for a byte of a form, and the whole line. Assumes nothing.
use mathlib.Core.Path.{◌≡◌, refl, sym, ap, ◌∙◌}
use mathlib.Core.Bool.{Bool, true, false, ◌&&◌, cond}
use mathlib.Core.List.{List, [], ◌∷◌, ◌++◌}
use Prim.Native.Nat.{ℕ, zero, suc, ◌+◌, ◌-◌, ◌*◌, ◌≤◌, ◌<◌, min}
use native.Mathlib.Numerals.{add-one}
use native.Mathlib.Omega.{arith}
use borrow.Author.Tests.{le-leb, leb-true, le-ltb, eq-eqb, ne_eqb}
use lib.Dec.{leb, eqb}
use lib.IntN.{ℤ, pos}
use lib.ListN.{length, get_or, take, drop, replicate, length-append, length-drop, drop_of_length-le}
use lib.Seq.{drop-cons, drop-drop, drop_at, take_all}
use Rattle.binary32.specs.Hex.{hex_text, read_bits}
use Rattle.std.proofs.Common.{Option, None, Some}
use Rattle.binary32.proofs.Digits.{digits_length, bits_written_read}
use Rattle.line_form.specs.Integers.{Front, broken, front, is_digit, digits_after, read_positive, negated, mapped, read_integer}
use Rattle.line_form.specs.Forms.{Number, bits, whole, number_text, Piece, no_piece, same, number, bits_piece, whole_piece, byte_piece, piece_of, Fitted, misfit, fitted, before, then, fit_of}
use Rattle.line_form.specs.Held.{held_whole, held, held_up_to, held_fit, held_piece, held_digits, held_positive, plain, word, kept}
use Rattle.line_form.specs.declared.read.Taken.{Taken}
use Rattle.line_form.proofs.Decimal.{integer_told}

-- a part of a text to its end
pub part : (text : List ℕ) (n : ℕ) → take (length text - n) (drop n text) ≡ drop n text
part text n = take_all (length text - n) (drop n text) (rw (length-drop n text) (omega arith))

-- its byte at i, and those behind
pub front_of : (text : List ℕ) (i : ℕ) → i < length text → drop i text ≡ get_or text i 0 ∷ drop (i + 1) text
front_of text i h = rw (add-one, drop-cons text i 0)

-- ---- digits

-- digits are held alike after two numbers that are cut alike
pub alike : (u v : ℕ) (text : List ℕ) → min 1000000 u ≡ min 1000000 v → held_digits (digits_after u text) ≡ held_digits (digits_after v text)
unfolding digits_after held_digits
alike u v [] e = rw e
alike u v (b ∷ text) e = go (is_digit b) (alike (u * 10 + (b - 48)) (v * 10 + (b - 48)) text (omega arith))
  where
    go : (t : Bool) → held_digits (digits_after (u * 10 + (b - 48)) text) ≡ held_digits (digits_after (v * 10 + (b - 48)) text)
        → held_digits (cond t (digits_after (u * 10 + (b - 48)) text) (front u (b ∷ text))) ≡ held_digits (cond t (digits_after (v * 10 + (b - 48)) text) (front v (b ∷ text)))
    go true h = h
    go false h = rw e

-- digits of a text, of which i are read, making a number that is held as v
pub record Counting (text : List ℕ) (v i : ℕ) : Type 0 where
  pub within : i ≤ length text
  pub small : v ≤ 1000000
  pub rest : held_digits (digits_after v (drop i text)) ≡ held_digits (digits_after 0 text)

digit_turn : (text : List ℕ) (v i : ℕ) → i < length text → is_digit (get_or text i 0) ≡ true
    → digits_after (v * 10 + (get_or text i 0 - 48)) (drop (i + 1) text) ≡ digits_after v (drop i text)
unfolding digits_after
digit_turn text v i h e = rw (front_of text i h, e)

digit_stop : (text : List ℕ) (v i : ℕ) → i < length text → is_digit (get_or text i 0) ≡ false → front v (drop i text) ≡ digits_after v (drop i text)
unfolding digits_after
digit_stop text v i h e = rw (front_of text i h, e)

digit_end : (text : List ℕ) (v i : ℕ) → length text ≤ i → front v [] ≡ digits_after v (drop i text)
unfolding digits_after
digit_end text v i h = rw (drop_of_length-le text h)

held_front : (v n : ℕ) (text : List ℕ) → v ≤ 1000000 → n ≡ length text → record { value = v; left = n } ≡ held_digits (front v text)
unfolding held_digits
held_front v n text h e = let a : min 1000000 v ≡ v = omega arith in rw (a, e)

module _ (text : List ℕ) (v i : ℕ) (g : Counting text v i) where
  pub one_counted : i < length text → is_digit (get_or text i 0) ≡ true → (w : ℕ) → w ≡ min 1000000 (v * 10 + (get_or text i 0 - 48)) → Counting text w (i + 1)
  one_counted h e w k =
      record {
        within = omega arith;
        small = omega arith;
        rest = alike w (v * 10 + (get_or text i 0 - 48)) (drop (i + 1) text) (omega arith) ∙ ap held_digits (digit_turn text v i h e) ∙ g.rest;
      }

  pub counted_to : i < length text → is_digit (get_or text i 0) ≡ false → record { value = v; left = length text - i } ≡ held_digits (digits_after 0 text)
  counted_to h e = held_front v (length text - i) (drop i text) g.small (sym (length-drop i text)) ∙ ap held_digits (digit_stop text v i h e) ∙ g.rest

  pub counted_all : length text ≤ i → record { value = v; left = 0 } ≡ held_digits (digits_after 0 text)
  counted_all h = held_front v 0 [] g.small refl ∙ ap held_digits (digit_end text v i h) ∙ g.rest

-- ---- integers

-- digits are never broken: there may be none
some_digits : (v : ℕ) (text : List ℕ) → digits_after v text ≡ broken → ⊥
unfolding digits_after
some_digits v [] e = cc
some_digits v (b ∷ text) e = go (is_digit b) (λ h. some_digits (v * 10 + (b - 48)) text h) e
  where
    go : (t : Bool) → (digits_after (v * 10 + (b - 48)) text ≡ broken → ⊥) → cond t (digits_after (v * 10 + (b - 48)) text) (front v (b ∷ text)) ≡ broken → ⊥
    go true f h = f h
    go false f h = cc

pub digits_small : (d : Taken ℕ) (got : Front ℕ) → d ≡ held_digits got → d.value ≤ 1000000
unfolding held_digits
digits_small d broken e = rw e (omega arith)
digits_small d (front n text) e = rw e (omega arith)

positive_held : (got : Front ℕ) → (got ≡ broken → ⊥) → Some (held_digits got) ≡ held_positive got
unfolding held_positive
positive_held broken h = absurd (h refl)
positive_held (front n text) h = refl

pub positive_some : (text : List ℕ) (d : Taken ℕ) → 1 ≤ length text → 49 ≤ get_or text 0 0 → get_or text 0 0 ≤ 57 → d ≡ held_digits (digits_after 0 text)
    → Some d ≡ held_positive (read_positive text)
unfolding read_positive digits_after
positive_some [] d n l m e = absurd (omega arith)
positive_some (b ∷ text) d n l m e =
    let k : 0 * 10 + (b - 48) ≡ b - 48 = omega arith in
    rw (le-leb 49 b l, le-leb b 57 m)
    (ap (λ (x : Taken ℕ). Some x) (rw (le-leb 48 b (omega arith), le-leb b 57 m, k) at e) ∙ positive_held (digits_after (b - 48) text) (some_digits (b - 48) text))

pub positive_none : (text : List ℕ) → (1 ≤ length text → 49 ≤ get_or text 0 0 → 57 < get_or text 0 0) → None ≡ held_positive (read_positive text)
unfolding read_positive held_positive
positive_none [] f = refl
positive_none (b ∷ text) f = go (leb 49 b) (leb b 57) refl refl
  where
    go : (s t : Bool) → leb 49 b ≡ s → leb b 57 ≡ t → None ≡ held_positive (cond (s && t) (digits_after (b - 48) text) broken)
    go true true p q = absurd (omega (arith, f (omega arith) (leb-true 49 b p), leb-true b 57 q))
    go true false p q = refl
    go false t p q = refl

pub positive_small : (d : Taken ℕ) (text : List ℕ) → Some d ≡ held_positive (read_positive text) → d.value ≤ 1000000
unfolding held_positive
positive_small d text e = go (read_positive text) e
  where
    go : (got : Front ℕ) → Some d ≡ held_positive got → d.value ≤ 1000000
    go broken e = absurd cc
    go (front n text) e = digits_small d (front n text) cc

-- a number above 0, and one below
abbrev pub plus : Option (Taken ℕ) → Option (Taken (Option ℕ))
plus None = None
plus (Some d) = Some (word (1000000 + d.value) d.left)

abbrev pub minus : Option (Taken ℕ) → Option (Taken (Option ℕ))
minus None = None
minus (Some d) = Some (word (1000000 - d.value) d.left)

plus_held : (got : Front ℕ) → plus (held_positive got) ≡ held_piece (whole_piece (mapped pos got))
unfolding held_positive held_digits held_piece held held_whole
plus_held broken = refl
plus_held (front n text) = refl

minus_held : (got : Front ℕ) → minus (held_positive got) ≡ held_piece (whole_piece (mapped negated got))
unfolding held_positive held_digits held_piece held held_whole
minus_held broken = refl
minus_held (front zero text) = refl
minus_held (front (suc n) text) = let e : 1000000 - min 1000000 (suc n) ≡ 1000000 - suc n = omega arith in ap (λ (w : ℕ). Some (word w (length text))) e

module _ (text : List ℕ) where
  pub integer_zero : 1 ≤ length text → get_or text 0 0 ≡ 48 → Some (word 1000000 (length (take (length text - 1) (drop 1 text)))) ≡ held_piece (whole_piece (read_integer text))
  unfolding read_integer held_piece held held_whole
  integer_zero h k = rw (part text 1) (go text h k)
    where
      go : (text : List ℕ) → 1 ≤ length text → get_or text 0 0 ≡ 48 → Some (word 1000000 (length (drop 1 text))) ≡ held_piece (whole_piece (read_integer text))
      go [] h k = absurd (omega arith)
      go (b ∷ text) h k = rw (eq-eqb b 48 k)

  pub integer_minus : 1 ≤ length text → get_or text 0 0 ≡ 45 → minus (held_positive (read_positive (take (length text - 1) (drop 1 text)))) ≡ held_piece (whole_piece (read_integer text))
  unfolding read_integer
  integer_minus h k = rw (part text 1) (minus_held (read_positive (drop 1 text)) ∙ ap (λ (p : Front ℤ). held_piece (whole_piece p)) (go text h k))
    where
      go : (text : List ℕ) → 1 ≤ length text → get_or text 0 0 ≡ 45 → mapped negated (read_positive (drop 1 text)) ≡ read_integer text
      go [] h k = absurd (omega arith)
      go (b ∷ text) h k = rw (ne_eqb b 48 (omega arith), eq-eqb b 45 k)

  pub integer_plus : 1 ≤ length text → (get_or text 0 0 ≡ 48 → ⊥) → (get_or text 0 0 ≡ 45 → ⊥) → plus (held_positive (read_positive text)) ≡ held_piece (whole_piece (read_integer text))
  unfolding read_integer
  integer_plus h k l = plus_held (read_positive text) ∙ ap (λ (p : Front ℤ). held_piece (whole_piece p)) (go text h k l)
    where
      go : (text : List ℕ) → 1 ≤ length text → (get_or text 0 0 ≡ 48 → ⊥) → (get_or text 0 0 ≡ 45 → ⊥) → mapped pos (read_positive text) ≡ read_integer text
      go [] h k l = absurd (omega arith)
      go (b ∷ text) h k l = rw (ne_eqb b 48 k, ne_eqb b 45 l)

  pub integer_none : length text < 1 → None ≡ held_piece (whole_piece (read_integer text))
  unfolding read_integer held_piece
  integer_none h = go text h
    where
      go : (text : List ℕ) → length text < 1 → None ≡ held_piece (whole_piece (read_integer text))
      go [] h = refl
      go (b ∷ text) h = absurd (omega arith)

-- ---- floats and bytes

pub float_none : (text : List ℕ) → None ≡ read_bits text → None ≡ held_piece (bits_piece (read_bits text) (drop 8 text))
unfolding held_piece
float_none text e = rw (← e) refl

pub float_room : (text : List ℕ) (b : ℕ) → Some b ≡ read_bits text → 8 ≤ length text
float_room text b e = omega (arith, ap length (bits_written_read b text (sym e)).again, length-append (hex_text b) (drop 8 text), digits_length 8 b)

pub float_read : (text : List ℕ) (b : ℕ) → Some b ≡ read_bits text → Some (word b (length text - 8)) ≡ held_piece (bits_piece (read_bits text) (drop 8 text))
unfolding held_piece held
float_read text b e = rw (← e, length-drop 8 text) refl

pub byte_none : (c : ℕ) (text : List ℕ) → length text < 1 → None ≡ held_piece (byte_piece c text)
unfolding held_piece
byte_none c [] h = refl
byte_none c (b ∷ text) h = absurd (omega arith)

pub byte_same : (c : ℕ) (text : List ℕ) → 1 ≤ length text → get_or text 0 0 ≡ c → Some (plain (length (take (length text - 1) (drop 1 text)))) ≡ held_piece (byte_piece c text)
unfolding held_piece
byte_same c text h k = rw (part text 1) (go text h k)
  where
    go : (text : List ℕ) → 1 ≤ length text → get_or text 0 0 ≡ c → Some (plain (length (drop 1 text))) ≡ held_piece (byte_piece c text)
    go [] h k = absurd (omega arith)
    go (b ∷ text) h k = rw (eq-eqb b c k)

pub byte_other : (c : ℕ) (text : List ℕ) → (get_or text 0 0 ≡ c → ⊥) → None ≡ held_piece (byte_piece c text)
unfolding held_piece
byte_other c [] k = refl
byte_other c (b ∷ text) k = rw (ne_eqb b c k)

-- ---- one byte of a form

module _ (c : ℕ) (text : List ℕ) where
  pub of_float : c ≡ 37 → piece_of c text ≡ bits_piece (read_bits text) (drop 8 text)
  unfolding piece_of
  of_float h = rw (eq-eqb c 37 h)

  pub of_whole : (c ≡ 37 → ⊥) → c ≡ 35 → piece_of c text ≡ whole_piece (read_integer text)
  unfolding piece_of
  of_whole h k = rw (ne_eqb c 37 h, eq-eqb c 35 k)

  pub of_byte : (c ≡ 37 → ⊥) → (c ≡ 35 → ⊥) → piece_of c text ≡ byte_piece c text
  unfolding piece_of
  of_byte h k = rw (ne_eqb c 37 h, ne_eqb c 35 k)

  of_part : (n : ℕ) (r : Option (Taken (Option ℕ))) → r ≡ held_piece (piece_of c (take (length text - n) (drop n text))) → r ≡ held_piece (piece_of c (drop n text))
  of_part n r e = e ∙ ap (λ (s : List ℕ). held_piece (piece_of c s)) (part text n)

-- what stands before the rest of a text is the number's text
float_told : (text : List ℕ) (got : Option ℕ) (n : Number) (rest : List ℕ) → read_bits text ≡ got → bits_piece got (drop 8 text) ≡ number n rest → text ≡ number_text n ++ rest
unfolding number_text
float_told text None n rest p h = absurd cc
float_told text (Some b) n rest p h =
    let a : bits b ≡ n = cc in
    let d : drop 8 text ≡ rest = cc in
    rw (← a, ← d) (bits_written_read b text p).again

whole_told : (text : List ℕ) (got : Front ℤ) (n : Number) (rest : List ℕ) → read_integer text ≡ got → whole_piece got ≡ number n rest → text ≡ number_text n ++ rest
unfolding number_text
whole_told text broken n rest p h = absurd cc
whole_told text (front z more) n rest p h =
    let a : whole z ≡ n = cc in
    let d : more ≡ rest = cc in
    rw (← a, ← d) (integer_told text z more p)

byte_number : (c : ℕ) (text : List ℕ) (n : Number) (rest : List ℕ) → byte_piece c text ≡ number n rest → ⊥
byte_number c [] n rest h = cc
byte_number c (b ∷ text) n rest h = go (eqb b c) h
  where
    go : (t : Bool) → cond t (same text) no_piece ≡ number n rest → ⊥
    go true k = cc
    go false k = cc

number_told : (c : ℕ) (text : List ℕ) (n : Number) (rest : List ℕ) → piece_of c text ≡ number n rest → text ≡ number_text n ++ rest
unfolding piece_of
number_told c text n rest h = go (eqb c 37) (eqb c 35) h
  where
    go : (s t : Bool) → cond s (bits_piece (read_bits text) (drop 8 text)) (cond t (whole_piece (read_integer text)) (byte_piece c text)) ≡ number n rest → text ≡ number_text n ++ rest
    go true t k = float_told text (read_bits text) n rest refl k
    go false true k = whole_told text (read_integer text) n rest refl k
    go false false k = absurd (byte_number c text n rest k)

-- a byte that stands for itself
float_same : (got : Option ℕ) (text rest : List ℕ) → bits_piece got text ≡ same rest → ⊥
float_same None text rest h = cc
float_same (Some b) text rest h = cc

whole_same : (got : Front ℤ) (rest : List ℕ) → whole_piece got ≡ same rest → ⊥
whole_same broken rest h = cc
whole_same (front n text) rest h = cc

record OneByte (text rest : List ℕ) : Type 0 where
  pub some : 0 < length text
  pub behind : drop 1 text ≡ rest

byte_told : (c : ℕ) (text rest : List ℕ) → byte_piece c text ≡ same rest → OneByte text rest
byte_told c [] rest h = absurd cc
byte_told c (b ∷ text) rest h = go (eqb b c) h
  where
    go : (t : Bool) → cond t (same text) no_piece ≡ same rest → OneByte (b ∷ text) rest
    go true k = record { some = omega arith; behind = cc }
    go false k = absurd cc

same_told : (c : ℕ) (text rest : List ℕ) → piece_of c text ≡ same rest → OneByte text rest
unfolding piece_of
same_told c text rest h = go (eqb c 37) (eqb c 35) h
  where
    go : (s t : Bool) → cond s (bits_piece (read_bits text) (drop 8 text)) (cond t (whole_piece (read_integer text)) (byte_piece c text)) ≡ same rest → OneByte text rest
    go true t k = absurd (float_same (read_bits text) (drop 8 text) rest k)
    go false true k = absurd (whole_same (read_integer text) rest k)
    go false false k = byte_told c text rest k

-- ---- the whole line

-- the numbers that are still to come, put behind those that are held
unfoldable pub put_all : List ℕ → ℕ → List Number → List ℕ
put_all vs k [] = vs
put_all vs k (n ∷ ns) = put_all (kept vs k (held n)) (k + 1) ns

unfoldable pub onward : List ℕ → ℕ → Fitted → Option (List ℕ)
onward vs k misfit = held_fit misfit
onward vs k (fitted ns) = Some (put_all vs k ns)

put_past : (vs : List ℕ) (k : ℕ) (ns : List Number) → 5 ≤ k → put_all vs k ns ≡ vs
unfolding put_all kept
put_past vs k [] h = refl
put_past vs k (n ∷ ns) h = rw (le-ltb k 5 h) (put_past vs (k + 1) ns (omega arith))

put_five : (ns : List Number) → put_all (replicate 5 0) 0 ns ≡ held_up_to 5 ns
unfolding put_all kept held_up_to
put_five [] = refl
put_five (a ∷ []) = refl
put_five (a ∷ b ∷ []) = refl
put_five (a ∷ b ∷ c ∷ []) = refl
put_five (a ∷ b ∷ c ∷ d ∷ []) = refl
put_five (a ∷ b ∷ c ∷ d ∷ e ∷ ns) = put_past (held a ∷ held b ∷ held c ∷ held d ∷ held e ∷ []) 5 ns (omega arith)

-- a line of which the bytes before `at` are read, for the first i bytes of its form, with k numbers
pub record Fitting (form line vs : List ℕ) (i at k : ℕ) : Type 0 where
  pub within : i ≤ length form
  pub inside : at ≤ length line
  pub few : k ≤ i
  pub rest : onward vs k (fit_of (drop i form) (drop at line)) ≡ held_fit (fit_of form line)

start : (f : Fitted) → onward (replicate 5 0) 0 f ≡ held_fit f
unfolding onward held_fit
start misfit = refl
start (fitted ns) = ap (λ (vs : List ℕ). Some vs) (put_five ns)

pub begun : (form line : List ℕ) → Fitting form line (replicate 5 0) 0 0 0
begun form line = record { within = omega arith; inside = omega arith; few = omega arith; rest = start (fit_of form line) }

form_turn : (form text : List ℕ) (i : ℕ) → i < length form → fit_of (drop i form) text ≡ then (piece_of (get_or form i 0) text) (λ t. fit_of (drop (i + 1) form) t)
unfolding fit_of
form_turn form text i h = rw (front_of form i h)

-- what a held piece says of the piece
nothing_held : (p : Piece) → None ≡ held_piece p → p ≡ no_piece
unfolding held_piece
nothing_held no_piece e = refl
nothing_held (same text) e = absurd cc
nothing_held (number n text) e = absurd cc

record HeldByte (p : Piece) (left : ℕ) : Type 0 where
  pub text : List ℕ
  pub is : p ≡ same text
  pub behind : left ≡ length text

byte_held : (p : Piece) (t : Taken (Option ℕ)) → Some t ≡ held_piece p → t.value ≡ None → HeldByte p t.left
unfolding held_piece
byte_held no_piece t e v = absurd cc
byte_held (same text) t e v =
    let q : t ≡ plain (length text) = cc in
    record { text = text; is = refl; behind = ap (λ (t : Taken (Option ℕ)). t.left) q }
byte_held (number n text) t e v =
    let q : t ≡ word (held n) (length text) = cc in
    let w : t.value ≡ Some (held n) = ap (λ (t : Taken (Option ℕ)). t.value) q in
    absurd cc

record HeldNumber (p : Piece) (v left : ℕ) : Type 0 where
  pub n : Number
  pub text : List ℕ
  pub is : p ≡ number n text
  pub value : v ≡ held n
  pub behind : left ≡ length text

number_held : (p : Piece) (t : Taken (Option ℕ)) (v : ℕ) → Some t ≡ held_piece p → t.value ≡ Some v → HeldNumber p v t.left
unfolding held_piece
number_held no_piece t v e f = absurd cc
number_held (same text) t v e f =
    let q : t ≡ plain (length text) = cc in
    let w : t.value ≡ None = ap (λ (t : Taken (Option ℕ)). t.value) q in
    absurd cc
number_held (number n text) t v e f =
    let q : t ≡ word (held n) (length text) = cc in
    let w : t.value ≡ Some (held n) = ap (λ (t : Taken (Option ℕ)). t.value) q in
    record { n = n; text = text; is = refl; value = cc; behind = ap (λ (t : Taken (Option ℕ)). t.left) q }

one_put : (vs : List ℕ) (k : ℕ) (n : Number) (f : Fitted) → onward vs k (before n f) ≡ onward (kept vs k (held n)) (k + 1) f
unfolding onward put_all
one_put vs k n misfit = refl
one_put vs k n (fitted ns) = refl

module _ {form line vs : List ℕ} {i at k : ℕ} (g : Fitting form line vs i at k) where
  module _ (h : i < length form) where
    pub missed : None ≡ held_piece (piece_of (get_or form i 0) (take (length line - at) (drop at line))) → None ≡ held_fit (fit_of form line)
    unfolding onward held_fit
    missed e =
        let q : fit_of (drop i form) (drop at line) ≡ misfit = rw (form_turn form (drop at line) i h, nothing_held (piece_of (get_or form i 0) (drop at line)) (of_part (get_or form i 0) line at None e)) in
        rw q at g.rest

    module _ {t : Taken (Option ℕ)} (p : Some t ≡ held_piece (piece_of (get_or form i 0) (take (length line - at) (drop at line)))) where
      held_here : Some t ≡ held_piece (piece_of (get_or form i 0) (drop at line))
      held_here = of_part (get_or form i 0) line at (Some t) p

      module _ (e : t.value ≡ None) where
        here : HeldByte (piece_of (get_or form i 0) (drop at line)) t.left
        here = byte_held (piece_of (get_or form i 0) (drop at line)) t held_here e

        one : OneByte (drop at line) here.text
        one = same_told (get_or form i 0) (drop at line) here.text here.is

        lefts : t.left ≡ length line - (at + 1)
        lefts = here.behind ∙ ap length (sym one.behind ∙ drop-drop 1 at line) ∙ length-drop (at + 1) line

        byte_room : at < length line
        byte_room = omega (arith, one.some, length-drop at line)

        pub byte_passed : Fitting form line vs (i + 1) (length line - t.left) k
        byte_passed =
            let q : fit_of (drop i form) (drop at line) ≡ fit_of (drop (i + 1) form) (drop (at + 1) line) =
            form_turn form (drop at line) i h ∙ ap (λ (p : Piece). then p (λ t. fit_of (drop (i + 1) form) t)) here.is
            ∙ ap (fit_of (drop (i + 1) form)) (sym one.behind ∙ drop-drop 1 at line) in
            let so : length line - t.left ≡ at + 1 = omega (arith, lefts, byte_room) in
            rw so
            record {
              within = omega arith;
              inside = omega (arith, byte_room);
              few = omega (arith, g.few);
              rest = ap (onward vs k) (sym q) ∙ g.rest;
            }

      module _ {v : ℕ} (e : t.value ≡ Some v) where
        found : HeldNumber (piece_of (get_or form i 0) (drop at line)) v t.left
        found = number_held (piece_of (get_or form i 0) (drop at line)) t v held_here e

        told : drop at line ≡ number_text found.n ++ found.text
        told = number_told (get_or form i 0) (drop at line) found.n found.text found.is

        lengths : length line - at ≡ length (number_text found.n) + t.left
        lengths = sym (length-drop at line) ∙ ap length told ∙ length-append (number_text found.n) found.text ∙ ap (λ (m : ℕ). length (number_text found.n) + m) (sym found.behind)

        number_room : t.left ≤ length line
        number_room = omega (arith, lengths)

        behind : drop (length line - t.left) line ≡ found.text
        behind =
            let m = length (number_text found.n) in
            let q : length line - t.left ≡ at + m = omega (arith, lengths, g.inside) in
            ap (λ (j : ℕ). drop j line) q ∙ sym (drop-drop m at line) ∙ ap (drop m) told ∙ drop_at (number_text found.n) found.text m refl

        pub number_passed : Fitting form line (kept vs k v) (i + 1) (length line - t.left) (k + 1)
        number_passed =
            let q : fit_of (drop i form) (drop at line) ≡ before found.n (fit_of (drop (i + 1) form) (drop (length line - t.left) line)) =
            form_turn form (drop at line) i h ∙ ap (λ (p : Piece). then p (λ t. fit_of (drop (i + 1) form) t)) found.is
            ∙ ap (λ (t : List ℕ). before found.n (fit_of (drop (i + 1) form) t)) (sym behind) in
            record {
              within = omega arith;
              inside = omega arith;
              few = omega (arith, g.few);
              rest =
                  ap (λ (us : List ℕ). onward us (k + 1) (fit_of (drop (i + 1) form) (drop (length line - t.left) line))) (ap (kept vs k) found.value)
                  ∙ sym (one_put vs k found.n (fit_of (drop (i + 1) form) (drop (length line - t.left) line)))
                  ∙ ap (onward vs k) (sym q)
                  ∙ g.rest;
            }

      -- it lies in the line
      pub taken_room : t.left ≤ length line
      taken_room = go t.value refl
        where
          go : (v : Option ℕ) → t.value ≡ v → t.left ≤ length line
          go None e = omega (arith, lefts e)
          go (Some v) e = number_room e

  module _ (h : length form ≤ i) where
    pub all_read : length line ≤ at → Some vs ≡ held_fit (fit_of form line)
    unfolding fit_of onward put_all
    all_read l = rw (drop_of_length-le form h, drop_of_length-le line l) at g.rest

    pub more_left : at < length line → None ≡ held_fit (fit_of form line)
    unfolding fit_of onward held_fit
    more_left l = rw (drop_of_length-le form h, front_of line at l) at g.rest
