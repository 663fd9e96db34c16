-- The laws of integers in text and of lines that have a form: reading what was printed gives the numbers back, printing what was read gives the
-- line back, how long a printed line can be, and words that hold integers. Assumes nothing.
use mathlib.Core.Path.{◌≡◌, refl, sym, ap, ◌∙◌, subst}
use mathlib.Core.Bool.{Bool, true, false, ◌||◌, cond}
use mathlib.Core.List.{List, [], ◌∷◌, ◌++◌}
use Prim.Native.Nat.{ℕ, suc, ◌+◌, ◌*◌, ◌/◌, ◌%◌, ◌≤◌, ◌<◌}
use native.Mathlib.Omega.{arith}
use borrow.Author.Tests.{lt-leb, le-leb, ltb-true, ltb-false, eq-eqb, eqb-true}
use lib.Dec.{ltb, eqb}
use lib.IntN.{ℤ, nat_abs}
use lib.ListN.{length, drop, length-append}
use lib.Seq.{drop_at}
use Rattle.binary32.specs.Hex.{hex_text, read_bits}
use Rattle.std.proofs.Common.{Option, None, Some}
use Rattle.binary32.proofs.Digits.{digits_length, bits_read_written, bits_written_read}
use Rattle.line_form.specs.Integers.{decimal, integer_text, Front, broken, front, is_digit, read_integer}
use Rattle.line_form.specs.Forms.{Number, bits, whole, number_text, is_slot, first_text, printed, no_piece, same, bits_piece, whole_piece, byte_piece, piece_of, Fitted, misfit, fitted, before, then, fit_of, Suits, none_left, a_float, an_integer, a_byte, ends_first, apart, ReadsBack, PrintsBack}
use Rattle.line_form.specs.Lengths.{slots, Short}
use Rattle.line_form.proofs.Decimal as integers
use Rattle.line_form.proofs.Decimal.{Ended, integer_read, integer_told}

-- ---- integers

-- the digits of n are those of its tenth, and its last: the fuel of `decimal` is enough
pub decimal_digits : (n : ℕ) → decimal n ≡ cond (ltb n 10) [] (decimal (n / 10)) ++ ((48 + n % 10) ∷ [])
decimal_digits n = integers.decimal_digits n

-- an integer of seven digits has no more than eight bytes
pub integer_length : (z : ℤ) → nat_abs z < 10000000 → length (integer_text z) ≤ 8
integer_length z h = integers.integer_length z h

-- ---- what stands for one byte of a form

piece_float : (text : List ℕ) → piece_of 37 text ≡ bits_piece (read_bits text) (drop 8 text)
unfolding piece_of
piece_float text = refl

piece_whole : (text : List ℕ) → piece_of 35 text ≡ whole_piece (read_integer text)
unfolding piece_of
piece_whole text = refl

pub piece_byte : (c : ℕ) (text : List ℕ) → is_slot c ≡ false → piece_of c text ≡ byte_piece c text
unfolding piece_of
piece_byte c text e = go (eqb c 37) (eqb c 35) e
  where
    go : (s t : Bool) → (s || t) ≡ false → cond s (bits_piece (read_bits text) (drop 8 text)) (cond t (whole_piece (read_integer text)) (byte_piece c text)) ≡ byte_piece c text
    go true t p = absurd cc
    go false true p = absurd cc
    go false false p = refl

-- ---- reading what was printed

float_fits : (form : List ℕ) (b : ℕ) (rest : List ℕ) → b < 0x1_0000_0000 → fit_of (37 ∷ form) (hex_text b ++ rest) ≡ before (bits b) (fit_of form rest)
unfolding fit_of
float_fits form b rest h =
    rw (piece_float (hex_text b ++ rest), bits_read_written b rest h, drop_at (hex_text b) rest 8 (digits_length 8 b))

whole_fits : (form : List ℕ) (z : ℤ) (rest : List ℕ) → Ended rest → fit_of (35 ∷ form) (integer_text z ++ rest) ≡ before (whole z) (fit_of form rest)
unfolding fit_of
whole_fits form z rest e = rw (piece_whole (integer_text z ++ rest), integer_read z rest e)

pub byte_fits : (form : List ℕ) (c : ℕ) (rest : List ℕ) → is_slot c ≡ false → fit_of (c ∷ form) (c ∷ rest) ≡ fit_of form rest
unfolding fit_of
byte_fits form c rest e = rw (piece_byte c (c ∷ rest) e, eq-eqb c c refl)

pub byte_printed : (c : ℕ) (form : List ℕ) (ns : List Number) → is_slot c ≡ false → printed (c ∷ form) ns ≡ c ∷ printed form ns
unfolding printed
byte_printed c form ns e = rw e

-- a byte that ends an integer is printed as itself, and is no digit
end_printed : (form : List ℕ) (ns : List Number) → ends_first form ≡ true → Ended (printed form ns)
end_printed [] ns e = absurd cc
end_printed (c ∷ form) ns e = go (is_slot c) refl e
  where
    no_digit : (s t : Bool) → ltb c 48 ≡ s → ltb 57 c ≡ t → (s || t) ≡ true → is_digit c ≡ false
    no_digit true t p q h = rw (lt-leb 48 c (ltb-true c 48 p))
    no_digit false true p q h = rw (le-leb 48 c (ltb-false c 48 p), lt-leb c 57 (ltb-true 57 c q))
    no_digit false false p q h = absurd cc

    go : (s : Bool) → is_slot c ≡ s → cond s false (ltb c 48 || ltb 57 c) ≡ true → Ended (printed (c ∷ form) ns)
    go true p h = absurd cc
    go false p h = rw (byte_printed c form ns p) (no_digit (ltb c 48) (ltb 57 c) refl refl h)

-- after an integer of a form that keeps its integers apart
record Apart (form : List ℕ) : Type 0 where
  pub ends : ends_first form ≡ true
  pub rest : apart form ≡ true

after_whole : (form : List ℕ) → apart (35 ∷ form) ≡ true → Apart form
unfolding apart
after_whole form e = go (ends_first form) refl e
  where
    go : (s : Bool) → ends_first form ≡ s → cond s (apart form) false ≡ true → Apart form
    go true p h = record { ends = p; rest = h }
    go false p h = absurd cc

after_byte : (c : ℕ) (form : List ℕ) → is_slot c ≡ false → apart (c ∷ form) ≡ true → apart form ≡ true
unfolding apart
after_byte c form e h = go (eqb c 37) (eqb c 35) e h
  where
    go : (s t : Bool) → (s || t) ≡ false → cond t (cond (ends_first form) (apart form) false) (apart form) ≡ true → apart form ≡ true
    go true t p k = absurd cc
    go false true p k = absurd cc
    go false false p k = k

read_all : {form : List ℕ} {ns : List Number} → Suits form ns → apart form ≡ true → fit_of form (printed form ns) ≡ fitted ns
unfolding printed fit_of apart number_text
read_all none_left h = refl
read_all (a_float {form} {ns} b small s) h = float_fits form b (printed form ns) small ∙ ap (before (bits b)) (read_all s h)
read_all (an_integer {form} {ns} z s) h =
    let a = after_whole form h in
    whole_fits form z (printed form ns) (end_printed form ns a.ends) ∙ ap (before (whole z)) (read_all s a.rest)
read_all (a_byte {form} {ns} c e s) h =
    ap (fit_of (c ∷ form)) (byte_printed c form ns e) ∙ byte_fits form c (printed form ns) e ∙ read_all s (after_byte c form e h)

-- reading what was printed gives the numbers back
pub reads_back : ReadsBack
reads_back form ns h s = read_all s h

-- ---- printing what was read

no_fit : (ns : List Number) → misfit ≡ fitted ns → ⊥
no_fit ns h = cc

-- a number before the rest
abbrev Back : List ℕ → Type 0
Back form = (text : List ℕ) (ns : List Number) → fit_of form text ≡ fitted ns → PrintsBack form text ns

float_back : (form line : List ℕ) (ns : List Number) (got : Option ℕ) (rest : Fitted) → read_bits line ≡ got → fit_of form (drop 8 line) ≡ rest → Back form
    → then (bits_piece got (drop 8 line)) (λ text. fit_of form text) ≡ fitted ns → PrintsBack (37 ∷ form) line ns
unfolding printed number_text
float_back form line ns None rest p q ih h = absurd (no_fit ns h)
float_back form line ns (Some b) misfit p q ih h = absurd (no_fit ns (rw q at h))
float_back form line ns (Some b) (fitted ms) p q ih h =
    let r = ih (drop 8 line) ms q in
    let w = bits_written_read b line p in
    let all : fitted (bits b ∷ ms) ≡ fitted ns = rw q at h in
    let e : bits b ∷ ms ≡ ns = cc in
    subst (λ (k : List Number). PrintsBack (37 ∷ form) line k) e
    (record { line_again = w.again ∙ ap (λ (s : List ℕ). hex_text b ++ s) r.line_again; suits = a_float b w.small r.suits })

whole_back : (form line : List ℕ) (ns : List Number) (got : Front ℤ) → read_integer line ≡ got → Back form
    → then (whole_piece got) (λ text. fit_of form text) ≡ fitted ns → PrintsBack (35 ∷ form) line ns
unfolding printed number_text
whole_back form line ns broken p ih h = absurd (no_fit ns h)
whole_back form line ns (front z text) p ih h = go (fit_of form text) refl h
  where
    go : (rest : Fitted) → fit_of form text ≡ rest → before (whole z) rest ≡ fitted ns → PrintsBack (35 ∷ form) line ns
    go misfit q k = absurd (no_fit ns k)
    go (fitted ms) q k =
        let r = ih text ms q in
        let e : whole z ∷ ms ≡ ns = cc in
        subst (λ (l : List Number). PrintsBack (35 ∷ form) line l) e
        (record { line_again = integer_told line z text p ∙ ap (λ (s : List ℕ). integer_text z ++ s) r.line_again; suits = an_integer z r.suits })

byte_back : (c : ℕ) (form line : List ℕ) (ns : List Number) → is_slot c ≡ false → Back form
    → then (byte_piece c line) (λ text. fit_of form text) ≡ fitted ns → PrintsBack (c ∷ form) line ns
byte_back c form [] ns e ih h = absurd (no_fit ns h)
byte_back c form (b ∷ line) ns e ih h = go (eqb b c) refl h
  where
    go : (t : Bool) → eqb b c ≡ t → then (cond t (same line) no_piece) (λ text. fit_of form text) ≡ fitted ns → PrintsBack (c ∷ form) (b ∷ line) ns
    go false p k = absurd (no_fit ns k)
    go true p k =
        let r = ih line ns k in
        record {
          line_again = ap (λ (d : ℕ). d ∷ line) (eqb-true b c p) ∙ ap (λ (s : List ℕ). c ∷ s) r.line_again ∙ sym (byte_printed c form ns e);
          suits = a_byte c e r.suits;
        }

back_at : (c : ℕ) (form line : List ℕ) (ns : List Number) → Back form → then (piece_of c line) (λ text. fit_of form text) ≡ fitted ns → PrintsBack (c ∷ form) line ns
back_at c form line ns ih h = go (eqb c 37) (eqb c 35) refl refl
  where
    go : (s t : Bool) → eqb c 37 ≡ s → eqb c 35 ≡ t → PrintsBack (c ∷ form) line ns
    go true t p q =
        let e : 37 ≡ c = sym (eqb-true c 37 p) in
        subst (λ (d : ℕ). PrintsBack (d ∷ form) line ns) e (float_back form line ns (read_bits line) (fit_of form (drop 8 line)) refl refl ih (rw (← e, piece_float line) at h))
    go false true p q =
        let e : 35 ≡ c = sym (eqb-true c 35 q) in
        subst (λ (d : ℕ). PrintsBack (d ∷ form) line ns) e (whole_back form line ns (read_integer line) refl ih (rw (← e, piece_whole line) at h))
    go false false p q =
        let e : is_slot c ≡ false = rw (p, q) in
        byte_back c form line ns e ih (rw (piece_byte c line e) at h)

-- printing what was read gives the line back, and its numbers suit the form
pub prints_back : (form line : List ℕ) (ns : List Number) → fit_of form line ≡ fitted ns → PrintsBack form line ns
unfolding fit_of printed
prints_back [] [] ns h = let e : [] ≡ ns = cc in subst (λ (k : List Number). PrintsBack [] [] k) e (record { line_again = refl; suits = none_left })
prints_back [] (b ∷ line) ns h = absurd (no_fit ns h)
prints_back (c ∷ form) line ns h = back_at c form line ns (λ text ms k. prints_back form text ms k) h

-- ---- how long

number_length : (ns : List Number) → Short ns → length (first_text ns) ≤ 8
unfolding number_text
number_length [] h = omega arith
number_length (bits b ∷ ns) h = omega (arith, digits_length 8 b)
number_length (whole z ∷ ns) h = integer_length z h.0

short_rest : (ns : List Number) → Short ns → Short (drop 1 ns)
short_rest [] h = h
short_rest (bits b ∷ ns) h = h
short_rest (whole z ∷ ns) h = h.1

-- a printed line is no longer than its form and 7 bytes more for each number
pub printed_length : (form : List ℕ) (ns : List Number) → Short ns → length (printed form ns) ≤ length form + 7 * slots form
unfolding printed slots
printed_length [] ns h = omega arith
printed_length (c ∷ form) ns h = go (is_slot c) (printed_length form ns h) (printed_length form (drop 1 ns) (short_rest ns h))
  where
    go : (s : Bool) → length (printed form ns) ≤ length form + 7 * slots form → length (printed form (drop 1 ns)) ≤ length form + 7 * slots form
        → length (cond s (first_text ns) (c ∷ []) ++ printed form (cond s (drop 1 ns) ns)) ≤ suc (length form) + 7 * (cond s 1 0 + slots form)
    go true p q = let l = number_length ns h in simp length-append (omega arith)
    go false p q = omega arith
