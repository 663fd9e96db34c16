-- Hexadecimal digits: the turns of the reader's and the writer's loops, and the two round trips. Assumes nothing.
use Rattle.std.proofs.lemmas.List.{drop_all, append-nil}
use Prim.Native.Nat.{ℕ, zero, suc, ◌+◌, ◌-◌, ◌*◌, ◌/◌, ◌%◌, ◌^◌, ◌≤◌, ◌<◌}
use mathlib.Core.Path.{◌≡◌, refl, sym, ap, ap₂, ◌∙◌}
use mathlib.Core.Bool.{Bool, true, false, not, cond, true≢false}
use mathlib.Core.List.{List, [], ◌∷◌, ◌++◌}
use native.Mathlib.Nat.{add-mul, mul_assoc, mod-eq_of_lt, mul-add-div_right, not-suc-le-zero, le_of_suc-le-suc, mod-lt, lt_of_lt_of_le}
use native.Mathlib.Decide.{dec_le}
use native.Mathlib.Numerals.{add-one}
use native.Mathlib.Omega.{arith}
use borrow.Author.Tests.{lt-ltb, le-ltb, le-leb, lt-leb, eq-eqb, ne_eqb, eqb-true, eqb-false}
use lib.Arith.{mod-mul, digits_div, digits_lt}
use lib.Dec.{T, eqb}
use lib.ListN.{length, get_or, take, drop, set, length-append, length-take, length-drop}
use lib.Pow.{pow-add, pow_pos, pow_mono}
use lib.Seq.{drop-cons}
use lib.Ieee.{Float, nan, inf, fin, binary32, of_bits, to_bits, fits, is_nan}
use lib.Ieee.Bits.{of_bits-to_bits, to_bits-of_bits, to_bits-lt}
use Rattle.refusal.specs.declared.Refusal.{Refusal}
use Rattle.refusal.specs.declared.Refusal.TheVariants.{Malformed, OutOfRange}
use Rattle.std.proofs.Common.{Option, None, Some, Ok, Err}
use Rattle.std.proofs.lemmas.Option.{none-some, same_Some}
use Rattle.binary32.specs.Ranges.{is_finite}
use Rattle.binary32.specs.Hex.{digit_of, digits, hex_text, digit_value, digit_read, read_digits, read_bits, float_of, float_of_bits, read_float}

-- ---- one digit

pub value_low : (b : ℕ) → b < 48 → digit_value b ≡ 16
unfolding digit_value
value_low b h = rw (lt-leb 48 b h, lt-leb 97 b (omega arith))

pub value_decimal : (b : ℕ) → 48 ≤ b → b ≤ 57 → digit_value b ≡ b - 48
unfolding digit_value
value_decimal b h k = rw (le-leb 48 b h, le-leb b 57 k)

pub value_between : (b : ℕ) → 57 < b → b < 97 → digit_value b ≡ 16
unfolding digit_value
value_between b h k = rw (le-leb 48 b (omega arith), lt-leb b 57 h, lt-leb 97 b k)

pub value_letter : (b : ℕ) → 97 ≤ b → b ≤ 102 → digit_value b ≡ b - 87
unfolding digit_value
value_letter b h k = rw (le-leb 48 b (omega arith), lt-leb b 57 (omega arith), le-leb 97 b h, le-leb b 102 k)

pub value_high : (b : ℕ) → 102 < b → digit_value b ≡ 16
unfolding digit_value
value_high b h = rw (le-leb 48 b (omega arith), lt-leb b 57 (omega arith), le-leb 97 b (omega arith), lt-leb b 102 h)

-- a digit's number is below 16, and the digit is that number's
pub record Digit (b : ℕ) : Type 0 where
  pub small : digit_value b < 16
  pub back : digit_of (digit_value b) ≡ b

pub digit : (b : ℕ) → (digit_value b ≡ 16 → ⊥) → Digit b
digit b f = low (dec_le 48 b) (dec_le b 57) (dec_le 97 b) (dec_le b 102)
  where
    low : Dec (48 ≤ b) → Dec (b ≤ 57) → Dec (97 ≤ b) → Dec (b ≤ 102) → Digit b
    low (no a) d l h = absurd (f (value_low b (omega arith)))
    low (yes a) (yes d) l h = record { small = rw (value_decimal b a d) (omega arith); back = rw (value_decimal b a d, lt-ltb (b - 48) 10 (omega arith)) (omega arith) }
    low (yes a) (no d) (no l) h = absurd (f (value_between b (omega arith) (omega arith)))
    low (yes a) (no d) (yes l) (yes h) = record { small = rw (value_letter b l h) (omega arith); back = rw (value_letter b l h, le-ltb (b - 87) 10 (omega arith)) (omega arith) }
    low (yes a) (no d) (yes l) (no h) = absurd (f (value_high b (omega arith)))

-- the number of a number's digit
pub value_digit : (n : ℕ) → n < 16 → digit_value (digit_of n) ≡ n
value_digit n h = go (dec_le 10 n)
  where
    go : Dec (10 ≤ n) → digit_value (digit_of n) ≡ n
    go (yes k) = rw (le-ltb n 10 k) (value_letter (87 + n) (omega arith) (omega arith) ∙ omega arith)
    go (no f) = rw (lt-ltb n 10 (omega arith)) (value_decimal (48 + n) (omega arith) (omega arith) ∙ omega arith)

-- ---- powers of 16

pub power : (k : ℕ) → 2 ^ (4 * suc k) ≡ 16 * 2 ^ (4 * k)
power k = ap (λ (x : ℕ). 2 ^ x) (grouped k) ∙ pow-add 2 4 (4 * k)
  where
    grouped : (k : ℕ) → 4 * suc k ≡ 4 + 4 * k
    grouped k = omega arith

sum : (m d r p : ℕ) → (m * 16 + d) * p + r ≡ m * (16 * p) + (d * p + r)
sum m d r p = simp (add-mul, mul_assoc) (omega arith)

-- ---- the reader's loop

-- eight digits, of which i are read, making n
pub record Reading (text : List ℕ) (n i : ℕ) : Type 0 where
  pub eight : length text ≡ 8
  pub small : n < 2 ^ (4 * i)
  pub rest : read_digits (8 - i) n (drop i text) ≡ read_bits text

pub started : (text : List ℕ) → length text ≡ 8 → Reading text 0 0
started text e = record { eight = e; small = omega arith; rest = refl }

one_left : (i : ℕ) → i < 8 → 8 - i ≡ suc (8 - (i + 1))
one_left i h = omega arith

turn : (text : List ℕ) (n i : ℕ) → i < 8 → i < length text
    → read_digits (8 - i) n (drop i text) ≡ cond (eqb (digit_value (get_or text i 0)) 16) None (read_digits (8 - (i + 1)) (n * 16 + digit_value (get_or text i 0)) (drop (i + 1) text))
unfolding read_digits
turn text n i h l = rw (one_left i h, drop-cons text i 0 l, ← add-one i)

-- what a byte is read as
record ReadAs (b v : ℕ) : Type 0 where
  pub value : v ≡ digit_value b
  pub some : digit_value b ≡ 16 → ⊥

digit_some : (b v : ℕ) → Some v ≡ digit_read b → ReadAs b v
unfolding digit_read
digit_some b v e = go (eqb (digit_value b) 16) refl e
  where
    go : (t : Bool) → eqb (digit_value b) 16 ≡ t → Some v ≡ cond t None (Some (digit_value b)) → ReadAs b v
    go true h e = absurd (none-some v (sym e))
    go false h e = record { value = same_Some v (digit_value b) e; some = eqb-false (digit_value b) 16 h }

digit_none : (b : ℕ) → None ≡ digit_read b → digit_value b ≡ 16
unfolding digit_read
digit_none b e = go (eqb (digit_value b) 16) refl e
  where
    go : (t : Bool) → eqb (digit_value b) 16 ≡ t → None ≡ cond t None (Some (digit_value b)) → digit_value b ≡ 16
    go true h e = eqb-true (digit_value b) 16 h
    go false h e = absurd (none-some (digit_value b) e)

pub digit_small : (b v : ℕ) → Some v ≡ digit_read b → v < 16
digit_small b v e = let d = digit_some b v e in rw d.value (digit b d.some).small

module _ {text : List ℕ} {n i : ℕ} (r : Reading text n i) where
  module _ (l : i < length text) where
    pub in_word : n < 2 ^ 28
    in_word = lt_of_lt_of_le r.small (pow_mono (most i (rw r.eight at l)))
      where
        most : (i : ℕ) → i < 8 → 4 * i ≤ 28
        most i h = omega arith

    pub no_digit : None ≡ digit_read (get_or text i 0) → None ≡ read_bits text
    no_digit e = rw (turn text n i (rw r.eight at l) l, eq-eqb (digit_value (get_or text i 0)) 16 (digit_none (get_or text i 0) e)) at r.rest

    pub one_more : (v : ℕ) → Some v ≡ digit_read (get_or text i 0) → Reading text (n * 16 + v) (i + 1)
    one_more v e =
        let b = get_or text i 0 in
        let d = digit_some b v e in
        record {
          eight = r.eight;
          small = rw (add-one i, power i) (omega (arith, r.small, digit_small b v e));
          rest = rw d.value (rw (turn text n i (rw r.eight at l) l, ne_eqb (digit_value b) 16 d.some) at r.rest);
        }

  pub ended : length text ≤ i → Some n ≡ read_bits text
  unfolding read_digits
  ended h = let e : 8 - i ≡ 0 = omega (arith, r.eight) in rw e at r.rest

-- what stands behind the digits is not read
front_only : (k n : ℕ) (text : List ℕ) → read_digits k n (take k text) ≡ read_digits k n text
unfolding read_digits
front_only zero n text = refl
front_only (suc k) n [] = refl
front_only (suc k) n (b ∷ text) = ap (λ (r : Option ℕ). cond (eqb (digit_value b) 16) None r) (front_only k (n * 16 + digit_value b) text)

pub first_eight : (text : List ℕ) → read_bits (take 8 text) ≡ read_bits text
first_eight text = front_only 8 0 text

-- and too few are none
few : (k n : ℕ) (text : List ℕ) → length text < k → None ≡ read_digits k n text
unfolding read_digits
few zero n text h = absurd (not-suc-le-zero h)
few (suc k) n [] h = refl
few (suc k) n (b ∷ text) h = go (eqb (digit_value b) 16) (few k (n * 16 + digit_value b) text (le_of_suc-le-suc h))
  where
    go : (t : Bool) {r : Option ℕ} → None ≡ r → None ≡ cond t None r
    go true e = refl
    go false e = e

pub too_few : (text : List ℕ) → length text < 8 → None ≡ read_bits text
too_few text h = few 8 0 text h

-- ---- the writer's loop: a list whose first i are another's

pub filled : (h e : List ℕ) (i : ℕ) → i < length h → i < length e → set (take i h ++ drop i e) i (get_or h i 0) ≡ take (suc i) h ++ drop (suc i) e
filled [] e i k l = absurd (not-suc-le-zero k)
filled (a ∷ h) [] i k l = absurd (not-suc-le-zero l)
filled (a ∷ h) (b ∷ e) zero k l = refl
filled (a ∷ h) (b ∷ e) (suc i) k l = ap (λ (s : List ℕ). a ∷ s) (filled h e i (le_of_suc-le-suc k) (le_of_suc-le-suc l))

pub digits_length : (k n : ℕ) → length (digits k n) ≡ k
unfolding digits
digits_length zero n = refl
digits_length (suc k) n = ap suc (digits_length k n)

pub digit_at : (k n i : ℕ) → i < k → get_or (digits k n) i 0 ≡ digit_of (n / 2 ^ (4 * (k - suc i)) % 16)
unfolding digits
digit_at zero n i h = absurd (not-suc-le-zero h)
digit_at (suc k) n zero h = ap (λ (j : ℕ). digit_of (n / 2 ^ (4 * j) % 16)) (same k)
  where
    same : (k : ℕ) → k ≡ suc k - 1
    same k = omega arith
digit_at (suc k) n (suc i) h = digit_at k n i (le_of_suc-le-suc h) ∙ ap (λ (j : ℕ). digit_of (n / 2 ^ (4 * j) % 16)) (same k i)
  where
    same : (k i : ℕ) → k - suc i ≡ suc k - suc (suc i)
    same k i = omega arith

all_of : (n : ℕ) → take 8 (hex_text n) ≡ hex_text n
unfolding digits
all_of n = refl

-- eight digits of n, of which i are written over what the part held
pub record Writing (n : ℕ) (old out : List ℕ) (i : ℕ) : Type 0 where
  pub within : i ≤ 8
  pub room : 8 ≤ length old
  pub part : out ≡ take i (hex_text n) ++ drop i old

pub begun : (n : ℕ) (old : List ℕ) → 8 ≤ length old → Writing n old old 0
begun n old h = record { within = omega arith; room = h; part = refl }

module _ (n : ℕ) (old out : List ℕ) (i : ℕ) (w : Writing n old out i) where
  pub still : length out ≡ length old
  still =
      let f = w.within in
      let g = w.room in
      rw w.part (simp (length-append, length-take, length-drop, digits_length) (omega arith))

  pub one_more_written : i < 8 → (d : ℕ) → d ≡ digit_of (n / 2 ^ (28 - 4 * i) % 16) → Writing n old (set out i d) (i + 1)
  one_more_written h d e = record {
    within = omega arith;
    room = w.room;
    part =
        ap₂ (λ (s : List ℕ) (v : ℕ). set s i v) w.part (e ∙ ap (λ (j : ℕ). digit_of (n / 2 ^ j % 16)) (place i h) ∙ sym (digit_at 8 n i h))
        ∙ filled (hex_text n) old i (rw (digits_length 8 n) h) (omega (arith, w.room))
        ∙ ap (λ (j : ℕ). take j (hex_text n) ++ drop j old) (sym (add-one i));
  }
    where
      place : (i : ℕ) → i < 8 → 28 - 4 * i ≡ 4 * (8 - suc i)
      place i h = omega arith

  pub done : 8 ≤ i → out ≡ hex_text n ++ drop 8 old
  done h =
      let e : i ≡ 8 = (let f = w.within in omega arith) in
      w.part ∙ ap (λ (j : ℕ). take j (hex_text n) ++ drop j old) e ∙ ap (λ (s : List ℕ). s ++ drop 8 old) (all_of n)

-- where the part is the first eight bytes and no more
pub eight_of : (out : List ℕ) → 8 ≤ length out → length (take 8 out) ≡ 8
eight_of out h = simp (length-take) (omega arith)

pub wrote_all : (n : ℕ) (old out : List ℕ) (i : ℕ) → length old ≡ 8 → Writing n old out i → 8 ≤ i → out ≡ hex_text n
wrote_all n old out i eight w h = done n old out i w h ∙ ap (λ (r : List ℕ). hex_text n ++ r) (drop_all 8 old (omega arith)) ∙ append-nil (hex_text n)

-- ---- what was written is read back

read_digits_lem : (k n m : ℕ) (rest : List ℕ) → read_digits k m (digits k n ++ rest) ≡ Some (m * 2 ^ (4 * k) + n % 2 ^ (4 * k))
unfolding read_digits digits
read_digits_lem zero n m rest = ap Some (none n m)
  where
    none : (n m : ℕ) → m ≡ m * 2 ^ (4 * 0) + n % 2 ^ (4 * 0)
    none n m = omega arith
read_digits_lem (suc k) n m rest =
    let d = n / 2 ^ (4 * k) % 16 in
    let small : d < 16 = mod-lt (n / 2 ^ (4 * k)) (omega arith) in
    rw (value_digit d small, ne_eqb d 16 (less d small)) (read_digits_lem k n (m * 16 + d) rest ∙ ap Some (sum m d (n % 2 ^ (4 * k)) (2 ^ (4 * k)) ∙ ap₂ (λ (p q : ℕ). m * p + q) (sym (power k)) (sym (ap (λ (p : ℕ). n % p) (power k) ∙ mod-mul n (omega arith) (pow_pos (4 * k))))))
  where
    less : (d : ℕ) → d < 16 → d ≡ 16 → ⊥
    less d h e = omega arith

-- ---- what was read is written back

digits_past : (k n x : ℕ) → digits k (x * 2 ^ (4 * k) + n) ≡ digits k n
unfolding digits
digits_past zero n x = refl
digits_past (suc k) n x =
    let p = 2 ^ (4 * k) in
    let e : x * 2 ^ (4 * suc k) + n ≡ x * 16 * p + n = ap (λ (q : ℕ). x * q + n) (power k) ∙ ap (λ (q : ℕ). q + n) (sym (mul_assoc x 16 p)) in
    ap₂ (λ (d : ℕ) (s : List ℕ). d ∷ s)
    (ap (λ (q : ℕ). digit_of (q % 16)) (ap (λ (q : ℕ). q / p) e ∙ mul-add-div_right (pow_pos (4 * k)) (x * 16) n) ∙ ap digit_of (past x (n / p)))
    (ap (digits k) e ∙ digits_past k n (x * 16))
  where
    past : (x m : ℕ) → (x * 16 + m) % 16 ≡ m % 16
    past x m = omega arith

pub record Written (text : List ℕ) (k m b : ℕ) : Type 0 where
  pub n : ℕ
  pub small : n < 2 ^ (4 * k)
  pub value : b ≡ m * 2 ^ (4 * k) + n
  pub whole : text ≡ digits k n ++ drop k text

no_number : (b : ℕ) → None ≡ Some b → ⊥
no_number b h = let z : ◌≡◌ {A = ℕ} 0 1 = cc in omega arith

-- one digit more in front
module _ (k m b c : ℕ) (text : List ℕ) (f : digit_value c ≡ 16 → ⊥) (w : Written text k (m * 16 + digit_value c) b) where
  longer : Written (c ∷ text) (suc k) m b
  unfolding digits
  longer =
      let v = digit_value c in
      let d = digit c f in
      let p = 2 ^ (4 * k) in
      record {
        n = v * p + w.n;
        small = rw (power k) (digits_lt d.small w.small);
        value = w.value ∙ sum m v w.n p ∙ ap (λ (q : ℕ). m * q + (v * p + w.n)) (sym (power k));
        whole =
            ap₂ (λ (a : ℕ) (s : List ℕ). a ∷ s)
            (sym (ap (λ (q : ℕ). digit_of (q % 16)) (digits_div v w.small) ∙ ap digit_of (mod-eq_of_lt d.small) ∙ d.back))
            (w.whole ∙ ap (λ (s : List ℕ). s ++ drop k text) (sym (digits_past k w.n v)));
      }

written : (k m b : ℕ) (text : List ℕ) → read_digits k m text ≡ Some b → Written text k m b
unfolding read_digits digits
written zero m b text h = record { n = 0; small = omega arith; value = same m b h; whole = refl }
  where
    same : (m b : ℕ) → Some m ≡ Some b → b ≡ m * 2 ^ (4 * 0) + 0
    same m b h = let e : m ≡ b = cc in omega arith
written (suc k) m b [] h = absurd (no_number b h)
written (suc k) m b (c ∷ text) h = go (eqb (digit_value c) 16) refl (λ g. written k (m * 16 + digit_value c) b text g)
  where
    go : (t : Bool) → eqb (digit_value c) 16 ≡ t → (read_digits k (m * 16 + digit_value c) text ≡ Some b → Written text k (m * 16 + digit_value c) b) → Written (c ∷ text) (suc k) m b
    go true e on = absurd (no_number b (rw e at h))
    go false e on = longer k m b c text (eqb-false (digit_value c) 16 e) (on (rw e at h))

-- ---- whole patterns

-- reading what was written gives the pattern back, whatever follows
pub bits_read_written : (b : ℕ) (rest : List ℕ) → b < 2 ^ 32 → read_bits (hex_text b ++ rest) ≡ Some b
bits_read_written b rest h = read_digits_lem 8 b 0 rest ∙ ap Some (whole b h)
  where
    whole : (b : ℕ) → b < 2 ^ 32 → 0 * 2 ^ (4 * 8) + b % 2 ^ (4 * 8) ≡ b
    whole b h = omega arith

pub record BitsRead (text : List ℕ) (b : ℕ) : Type 0 where
  pub small : b < 2 ^ 32
  pub again : text ≡ hex_text b ++ drop 8 text

-- writing what was read gives the bytes back
pub bits_written_read : (b : ℕ) (text : List ℕ) → read_bits text ≡ Some b → BitsRead text b
bits_written_read b text e =
    let w = written 8 0 b text e in
    let same : w.n ≡ b = value b w.n w.value in
    record { small = small b w.n same w.small; again = w.whole ∙ ap (λ (n : ℕ). hex_text n ++ drop 8 text) same }
  where
    value : (b n : ℕ) → b ≡ 0 * 2 ^ (4 * 8) + n → n ≡ b
    value b n e = omega arith

    small : (b n : ℕ) → n ≡ b → n < 2 ^ (4 * 8) → b < 2 ^ 32
    small b n e h = omega arith

-- ---- whole floats

-- reading what was written gives the value back, whatever follows
pub read_written : (x : Float) (rest : List ℕ) → T (fits binary32 x) → is_finite x ≡ true → read_float (hex_text (to_bits binary32 x) ++ rest) ≡ Ok x
unfolding float_of_bits float_of
read_written x rest f h =
    let b = to_bits binary32 x in
    ap float_of_bits (bits_read_written b rest (to_bits-lt binary32 x f)) ∙ rw (of_bits-to_bits binary32 x f, h)

no_float : (r : Refusal) (x : Float) → Err r ≡ Ok x → ⊥
no_float r x h = let z : ◌≡◌ {A = ℕ} 0 1 = cc in omega arith

finite_no_nan : (x : Float) → is_finite x ≡ true → T (not (is_nan x))
unfolding is_finite is_nan
finite_no_nan nan h = absurd (true≢false (sym h))
finite_no_nan (inf s) h = tt
finite_no_nan (fin s m e) h = tt

-- the bits that were read are those of the float
bits_of : (b : ℕ) (x : Float) → b < 2 ^ 32 → float_of b ≡ Ok x → to_bits binary32 x ≡ b
unfolding float_of
bits_of b x l h = go (is_finite (of_bits binary32 b)) refl
  where
    go : (t : Bool) → is_finite (of_bits binary32 b) ≡ t → to_bits binary32 x ≡ b
    go true e =
        let same : Ok (of_bits binary32 b) ≡ Ok x = rw e at h in
        let v : of_bits binary32 b ≡ x = cc in
        ap (to_bits binary32) (sym v) ∙ to_bits-of_bits binary32 b l (finite_no_nan (of_bits binary32 b) e)
    go false e = absurd (no_float OutOfRange x (rw e at h))

-- writing what was read gives the bytes back
pub written_read : (x : Float) (text : List ℕ) → read_float text ≡ Ok x → text ≡ hex_text (to_bits binary32 x) ++ drop 8 text
unfolding float_of_bits
written_read x text h = go (read_bits text) refl h
  where
    go : (b : Option ℕ) → read_bits text ≡ b → float_of_bits b ≡ Ok x → text ≡ hex_text (to_bits binary32 x) ++ drop 8 text
    go None e k = absurd (no_float Malformed x k)
    go (Some b) e k =
        let w = bits_written_read b text e in
        w.again ∙ ap (λ (n : ℕ). hex_text n ++ drop 8 text) (sym (bits_of b x w.small k))
