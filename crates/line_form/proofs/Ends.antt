-- A printed line ends with its only LF, so the first line of what is printed is the first printed line; and the lines of any text, joined,
-- are the text. Assumes nothing.
use mathlib.Core.Path.{◌≡◌, refl, ap, ◌∙◌, subst}
use mathlib.Core.Bool.{Bool, true, false, cond}
use mathlib.Core.List.{List, [], ◌∷◌, ◌++◌, append_assoc}
use Prim.Native.Nat.{ℕ, zero, suc, ◌+◌, ◌*◌, ◌/◌, ◌%◌, ◌^◌, ◌<◌}
use native.Mathlib.Omega.{arith}
use borrow.Author.Tests.{eqb-true, ne_eqb}
use lib.Dec.{eqb, ltb}
use lib.IntN.{pos, negsuc}
use lib.ListN.{drop}
use Rattle.binary32.specs.Hex.{digit_of, digits}
use Rattle.line_form.specs.Integers.{decimal_up_to, decimal, integer_text}
use Rattle.line_form.specs.Forms.{Number, bits, whole, number_text, is_slot, first_text, printed}
use Rattle.line_form.specs.Lines.{longer, onto, lines_of}

-- ---- a printed line ends with its only LF

unfoldable pub is_none : List ℕ → Bool
is_none [] = true
is_none (b ∷ text) = false

-- an LF at the end, and none before it
unfoldable pub ends_once : List ℕ → Bool
ends_once [] = false
ends_once (b ∷ text) = cond (eqb b 10) (is_none text) (ends_once text)

-- a byte above 10 is no LF, and so is none of a number
over : (b : ℕ) (text : List ℕ) → 10 < b → ends_once (b ∷ text) ≡ ends_once text
unfolding ends_once
over b text h = rw (ne_eqb b 10 (λ z. omega arith))

digit_high : (n : ℕ) → 10 < digit_of n
digit_high n = go (ltb n 10)
  where
    go : (x : Bool) → 10 < cond x (48 + n) (87 + n)
    go true = omega arith
    go false = omega arith

hex_over : (k n : ℕ) (text : List ℕ) → ends_once (digits k n ++ text) ≡ ends_once text
unfolding digits
hex_over zero n text = refl
hex_over (suc k) n text = over (digit_of (n / 2 ^ (4 * k) % 16)) (digits k n ++ text) (digit_high (n / 2 ^ (4 * k) % 16)) ∙ hex_over k n text

decimal_over : (f n : ℕ) (text : List ℕ) → ends_once (decimal_up_to f n ++ text) ≡ ends_once text
unfolding decimal_up_to
decimal_over zero n text = refl
decimal_over (suc f) n text = go (ltb n 10) (decimal_over f (n / 10)) ∙ over (48 + n % 10) text (omega arith)
  where
    go : (x : Bool) → ((t : List ℕ) → ends_once (decimal_up_to f (n / 10) ++ t) ≡ ends_once t)
        → ends_once ((cond x [] (decimal_up_to f (n / 10)) ++ ((48 + n % 10) ∷ [])) ++ text) ≡ ends_once ((48 + n % 10) ∷ text)
    go true ih = refl
    go false ih = rw append_assoc (ih ((48 + n % 10) ∷ text))

first_over : (ns : List Number) (text : List ℕ) → ends_once (first_text ns ++ text) ≡ ends_once text
unfolding number_text integer_text decimal
first_over [] text = refl
first_over (bits b ∷ ns) text = hex_over 8 b text
first_over (whole (pos n) ∷ ns) text = decimal_over (suc n) n text
first_over (whole (negsuc n) ∷ ns) text = over 45 _ (omega arith) ∙ decimal_over (suc (suc n)) (suc n) text

slot_no_end : (c : ℕ) → is_slot c ≡ true → eqb c 10 ≡ true → ⊥
slot_no_end c e h = let s : is_slot 10 ≡ true = subst (λ (d : ℕ). is_slot d ≡ true) (eqb-true c 10 h) e in cc

-- a form ends with its only LF, and so does what is printed from it
pub printed_ends : (form : List ℕ) (ns : List Number) → ends_once form ≡ true → ends_once (printed form ns) ≡ true
unfolding ends_once is_none printed
printed_ends [] ns e = e
printed_ends (c ∷ form) ns e = go (is_slot c) (eqb c 10) refl refl form ns (λ ms h. printed_ends form ms h) e
  where
    go : (x y : Bool) → is_slot c ≡ x → eqb c 10 ≡ y → (form : List ℕ) (ns : List Number) → ((ms : List Number) → ends_once form ≡ true → ends_once (printed form ms) ≡ true)
        → cond y (is_none form) (ends_once form) ≡ true → ends_once (cond x (first_text ns) (c ∷ []) ++ printed form (cond x (drop 1 ns) ns)) ≡ true
    go true true p q form ns ih h = absurd (slot_no_end c p q)
    go true false p q form ns ih h = first_over ns (printed form (drop 1 ns)) ∙ ih (drop 1 ns) h
    go false true p q [] ns ih h = rw q
    go false true p q (d ∷ form) ns ih h = absurd cc
    go false false p q form ns ih h = rw q (ih ns h)

-- ---- the lines of a text

pub first_line : (text rest : List ℕ) → ends_once text ≡ true → lines_of (text ++ rest) ≡ text ∷ lines_of rest
unfolding ends_once is_none lines_of
first_line [] rest e = absurd cc
first_line (b ∷ text) rest e = go (eqb b 10) refl text (λ h. first_line text rest h) e
  where
    go : (x : Bool) → eqb b 10 ≡ x → (text : List ℕ) → (ends_once text ≡ true → lines_of (text ++ rest) ≡ text ∷ lines_of rest) → cond x (is_none text) (ends_once text) ≡ true
        → onto b (lines_of (text ++ rest)) ≡ (b ∷ text) ∷ lines_of rest
    go true p [] ih h = rw p
    go true p (c ∷ text) ih h = absurd cc
    go false p text ih h = rw p (ap (longer b) (ih h))

-- texts one after the other
unfoldable pub joined : List (List ℕ) → List ℕ
joined [] = []
joined (t ∷ ts) = t ++ joined ts

joined_longer : (b : ℕ) (ls : List (List ℕ)) → joined (longer b ls) ≡ b ∷ joined ls
unfolding joined
joined_longer b [] = refl
joined_longer b (l ∷ ls) = refl

-- the lines of a text, joined, are the text
pub lines_joined : (text : List ℕ) → joined (lines_of text) ≡ text
unfolding joined lines_of
lines_joined [] = refl
lines_joined (b ∷ text) = go (eqb b 10) ∙ ap (λ (t : List ℕ). b ∷ t) (lines_joined text)
  where
    go : (x : Bool) → joined (cond x ((b ∷ []) ∷ lines_of text) (longer b (lines_of text))) ≡ b ∷ joined (lines_of text)
    go true = refl
    go false = joined_longer b (lines_of text)
