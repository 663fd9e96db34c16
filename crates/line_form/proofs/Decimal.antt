-- Integers in text: the fuel of `decimal` is enough, reading what was written gives the integer back, writing what was read gives the bytes
-- back, and how long an integer's text can be. Assumes nothing.
use mathlib.Core.Path.{◌≡◌, refl, sym, ap, ◌∙◌}
use mathlib.Core.Bool.{Bool, true, false, ◌&&◌, cond}
use mathlib.Core.List.{List, [], ◌∷◌, ◌++◌, append_assoc}
use Prim.Native.Nat.{ℕ, zero, suc, ◌+◌, ◌-◌, ◌*◌, ◌/◌, ◌%◌, ◌^◌, ◌≤◌, ◌<◌}
use native.Mathlib.Nat.{mod-lt, div-add-mod', not-suc-le-zero, pow-suc}
use native.Mathlib.Omega.{arith}
use borrow.Author.Tests.{lt-ltb, le-ltb, le-leb, ltb-true, ltb-false, leb-true, ne_eqb, eqb-true}
use lib.Arith.{digits_div, digits_mod}
use lib.Dec.{ltb, leb, eqb}
use lib.IntN.{ℤ, pos, negsuc, nat_abs}
use lib.ListN.{length, length-append}
use Rattle.line_form.specs.Integers.{decimal_up_to, decimal, integer_text, Front, broken, front, is_digit, digits_after, read_positive, negated, mapped, read_integer}

-- ---- written

fuel : (f g n : ℕ) → n < f → n < g → decimal_up_to f n ≡ decimal_up_to g n
unfolding decimal_up_to
fuel zero g n h k = absurd (not-suc-le-zero h)
fuel (suc f) zero n h k = absurd (not-suc-le-zero k)
fuel (suc f) (suc g) n h k = go (ltb n 10) refl (λ l m. fuel f g (n / 10) l m)
  where
    go : (t : Bool) → ltb n 10 ≡ t → (n / 10 < f → n / 10 < g → decimal_up_to f (n / 10) ≡ decimal_up_to g (n / 10))
        → cond t [] (decimal_up_to f (n / 10)) ++ ((48 + n % 10) ∷ []) ≡ cond t [] (decimal_up_to g (n / 10)) ++ ((48 + n % 10) ∷ [])
    go true e ih = refl
    go false e ih = let l = ltb-false n 10 e in ap (λ (s : List ℕ). s ++ ((48 + n % 10) ∷ [])) (ih (omega arith) (omega arith))

-- the fuel is enough: the digits of n are those of its tenth, and its last
pub decimal_digits : (n : ℕ) → decimal n ≡ cond (ltb n 10) [] (decimal (n / 10)) ++ ((48 + n % 10) ∷ [])
unfolding decimal decimal_up_to
decimal_digits n = go (ltb n 10) refl
  where
    go : (t : Bool) → ltb n 10 ≡ t → cond t [] (decimal_up_to n (n / 10)) ++ ((48 + n % 10) ∷ []) ≡ cond t [] (decimal (n / 10)) ++ ((48 + n % 10) ∷ [])
    go true e = refl
    go false e = let l = ltb-false n 10 e in ap (λ (s : List ℕ). s ++ ((48 + n % 10) ∷ [])) (fuel n (suc (n / 10)) (n / 10) (omega arith) (omega arith))

pub one_digit : (d : ℕ) → d < 10 → decimal d ≡ (48 + d) ∷ []
one_digit d h = let e : d % 10 ≡ d = omega arith in decimal_digits d ∙ rw (lt-ltb d 10 h, e)

pub more_digits : (n : ℕ) → 10 ≤ n → decimal n ≡ decimal (n / 10) ++ ((48 + n % 10) ∷ [])
more_digits n h = decimal_digits n ∙ rw (le-ltb n 10 h)

-- one digit more behind
pub appended : (v d : ℕ) → 0 < v → d < 10 → decimal (v * 10 + d) ≡ decimal v ++ ((48 + d) ∷ [])
appended v d h k = more_digits (v * 10 + d) (omega arith) ∙ rw (digits_div v k, digits_mod v k)

-- ---- what was written is read back

-- a byte that is no digit, or none, ends the digits
abbrev pub Ended : List ℕ → Type 0
Ended [] = Unit {0}
Ended (b ∷ text) = is_digit b ≡ false

digit_read : (v d : ℕ) (text : List ℕ) → d < 10 → digits_after v ((48 + d) ∷ text) ≡ digits_after (v * 10 + d) text
unfolding digits_after
digit_read v d text h = let e : 48 + d - 48 ≡ d = omega arith in rw (le-leb 48 (48 + d) (omega arith), le-leb (48 + d) 57 (omega arith), e)

ended_read : (v : ℕ) (text : List ℕ) → Ended text → digits_after v text ≡ front v text
unfolding digits_after
ended_read v [] e = refl
ended_read v (b ∷ text) e = rw e

-- the digits of a number above 0: the first is not 0, and reading on from it gives the number
record Digits (n : ℕ) : Type 0 where
  pub first : ℕ
  pub others : List ℕ
  pub is : decimal n ≡ first ∷ others
  pub low : 49 ≤ first
  pub high : first ≤ 57
  pub value : (text : List ℕ) → digits_after (first - 48) (others ++ text) ≡ digits_after n text

digits_of : (f n : ℕ) → n < f → 0 < n → Digits n
digits_of zero n h k = absurd (not-suc-le-zero h)
digits_of (suc f) n h k = go (ltb n 10) refl (λ l m. digits_of f (n / 10) l m)
  where
    go : (t : Bool) → ltb n 10 ≡ t → (n / 10 < f → 0 < n / 10 → Digits (n / 10)) → Digits n
    go true e ih =
        let l = ltb-true n 10 e in
        let same : 48 + n - 48 ≡ n = omega arith in
        record { first = 48 + n; others = []; is = one_digit n l; low = omega arith; high = omega arith; value = λ text. ap (λ (v : ℕ). digits_after v text) same }
    go false e ih =
        let l = ltb-false n 10 e in
        let d = n % 10 in
        let r = ih (omega arith) (omega arith) in
        record {
          first = r.first;
          others = r.others ++ ((48 + d) ∷ []);
          is = more_digits n l ∙ ap (λ (s : List ℕ). s ++ ((48 + d) ∷ [])) r.is;
          low = r.low;
          high = r.high;
          value = λ text.
              ap (digits_after (r.first - 48)) (append_assoc r.others ((48 + d) ∷ []) text)
              ∙ r.value ((48 + d) ∷ text)
              ∙ digit_read (n / 10) d text (mod-lt n (omega arith))
              ∙ ap (λ (v : ℕ). digits_after v text) (div-add-mod' n 10);
        }

positive_read : (n : ℕ) (text : List ℕ) → 0 < n → Ended text → read_positive (decimal n ++ text) ≡ front n text
unfolding read_positive
positive_read n text h e =
    let r = digits_of (suc n) n (omega arith) h in
    rw (r.is, le-leb 49 r.first r.low, le-leb r.first 57 r.high) (r.value text ∙ ended_read n text e)

-- an integer that does not start with 0 or a minus
plain_read : (n : ℕ) (text : List ℕ) → 0 < n → read_integer (decimal n ++ text) ≡ mapped pos (read_positive (decimal n ++ text))
unfolding read_integer
plain_read n text h =
    let r = digits_of (suc n) n (omega arith) h in
    let low = r.low in
    rw (r.is, ne_eqb r.first 48 (λ z. omega arith), ne_eqb r.first 45 (λ z. omega arith))

-- reading what was written gives the integer back, where no digit follows
pub integer_read : (z : ℤ) (text : List ℕ) → Ended text → read_integer (integer_text z ++ text) ≡ front z text
unfolding integer_text read_integer
integer_read (pos zero) text e = rw (one_digit 0 (omega arith))
integer_read (pos (suc n)) text e = plain_read (suc n) text (omega arith) ∙ ap (mapped pos) (positive_read (suc n) text (omega arith) e)
integer_read (negsuc n) text e = ap (mapped negated) (positive_read (suc n) text (omega arith) e)

-- ---- what was read is written back

no_front : {A : Type 0} (a : A) (text : List ℕ) → broken ≡ front a text → ⊥
no_front a text h = cc

pub record Told (before text : List ℕ) (n : ℕ) (rest : List ℕ) : Type 0 where
  pub some : 0 < n
  pub again : before ++ text ≡ decimal n ++ rest

here : (v n : ℕ) (text rest : List ℕ) → 0 < v → ◌≡◌ {A = Front ℕ} (front v text) (front n rest) → Told (decimal v) text n rest
here v n text rest h e = let a : v ≡ n = cc in let b : text ≡ rest = cc in record { some = omega arith; again = rw (a, b) }

digits_told : (v : ℕ) (text : List ℕ) (n : ℕ) (rest : List ℕ) → 0 < v → digits_after v text ≡ front n rest → Told (decimal v) text n rest
unfolding digits_after
digits_told v [] n rest h e = here v n [] rest h e
digits_told v (b ∷ text) n rest h e = go (leb 48 b) (leb b 57) refl refl (λ k q. digits_told (v * 10 + (b - 48)) text n rest k q) e
  where
    go : (s t : Bool) → leb 48 b ≡ s → leb b 57 ≡ t
        → (0 < v * 10 + (b - 48) → digits_after (v * 10 + (b - 48)) text ≡ front n rest → Told (decimal (v * 10 + (b - 48))) text n rest)
        → cond (s && t) (digits_after (v * 10 + (b - 48)) text) (front v (b ∷ text)) ≡ front n rest → Told (decimal v) (b ∷ text) n rest
    go false t p q ih k = here v n (b ∷ text) rest h k
    go true false p q ih k = here v n (b ∷ text) rest h k
    go true true p q ih k =
        let low = leb-true 48 b p in
        let high = leb-true b 57 q in
        let r = ih (omega arith) k in
        let same : 48 + (b - 48) ≡ b = omega arith in
        record {
          some = r.some;
          again =
              sym (append_assoc (decimal v) (b ∷ []) text)
              ∙ ap (λ (s : List ℕ). s ++ text) (ap (λ (c : ℕ). decimal v ++ (c ∷ [])) (sym same) ∙ sym (appended v (b - 48) h (omega arith)))
              ∙ r.again;
        }

positive_told : (text : List ℕ) (n : ℕ) (rest : List ℕ) → read_positive text ≡ front n rest → Told [] text n rest
unfolding read_positive
positive_told [] n rest e = absurd (no_front n rest e)
positive_told (b ∷ text) n rest e = go (leb 49 b) (leb b 57) refl refl e
  where
    go : (s t : Bool) → leb 49 b ≡ s → leb b 57 ≡ t → cond (s && t) (digits_after (b - 48) text) broken ≡ front n rest → Told [] (b ∷ text) n rest
    go false t p q k = absurd (no_front n rest k)
    go true false p q k = absurd (no_front n rest k)
    go true true p q k =
        let low = leb-true 49 b p in
        let high = leb-true b 57 q in
        let r = digits_told (b - 48) text n rest (omega arith) k in
        let same : 48 + (b - 48) ≡ b = omega arith in
        record { some = r.some; again = ap (λ (c : ℕ). c ∷ text) (sym same) ∙ ap (λ (s : List ℕ). s ++ text) (sym (one_digit (b - 48) (omega arith))) ∙ r.again }

minus_told : (text : List ℕ) (got : Front ℕ) (z : ℤ) (rest : List ℕ) → read_positive text ≡ got → mapped negated got ≡ front z rest → 45 ∷ text ≡ integer_text z ++ rest
unfolding integer_text
minus_told text broken z rest e k = absurd (no_front z rest k)
minus_told text (front zero more) z rest e k = absurd (let r = positive_told text zero more e in omega (arith, r.some))
minus_told text (front (suc n) more) z rest e k =
    let a : negsuc n ≡ z = cc in
    let b : more ≡ rest = cc in
    rw (← a, ← b) (ap (λ (s : List ℕ). 45 ∷ s) (positive_told text (suc n) more e).again)

plain_told : (text : List ℕ) (got : Front ℕ) (z : ℤ) (rest : List ℕ) → read_positive text ≡ got → mapped pos got ≡ front z rest → text ≡ integer_text z ++ rest
unfolding integer_text
plain_told text broken z rest e k = absurd (no_front z rest k)
plain_told text (front n more) z rest e k =
    let a : pos n ≡ z = cc in
    let b : more ≡ rest = cc in
    rw (← a, ← b) (positive_told text n more e).again

zero_told : (text : List ℕ) (z : ℤ) (rest : List ℕ) → ◌≡◌ {A = Front ℤ} (front (pos 0) text) (front z rest) → 48 ∷ text ≡ integer_text z ++ rest
unfolding integer_text
zero_told text z rest e =
    let a : pos 0 ≡ z = cc in
    let b : text ≡ rest = cc in
    rw (← a, ← b, one_digit 0 (omega arith))

-- writing what was read gives the bytes back
pub integer_told : (text : List ℕ) (z : ℤ) (rest : List ℕ) → read_integer text ≡ front z rest → text ≡ integer_text z ++ rest
unfolding read_integer
integer_told [] z rest e = absurd (no_front z rest e)
integer_told (b ∷ text) z rest e = go (eqb b 48) (eqb b 45) refl refl e
  where
    go : (s t : Bool) → eqb b 48 ≡ s → eqb b 45 ≡ t
        → cond s (front (pos 0) text) (cond t (mapped negated (read_positive text)) (mapped pos (read_positive (b ∷ text)))) ≡ front z rest → b ∷ text ≡ integer_text z ++ rest
    go true t p q k = ap (λ (c : ℕ). c ∷ text) (eqb-true b 48 p) ∙ zero_told text z rest k
    go false true p q k = ap (λ (c : ℕ). c ∷ text) (eqb-true b 45 q) ∙ minus_told text (read_positive text) z rest refl k
    go false false p q k = plain_told (b ∷ text) (read_positive (b ∷ text)) z rest refl k

-- ---- how long

tenth : (n p : ℕ) → n < p * 10 → n / 10 < p
tenth n p h = omega arith

-- a number below 10 ^ k has no more than k digits
pub decimal_length : (k n : ℕ) → n < 10 ^ suc k → length (decimal n) ≤ suc k
decimal_length zero n h = rw (one_digit n h) (omega arith)
decimal_length (suc k) n h = go (ltb n 10) refl (decimal_length k (n / 10) (tenth n (10 ^ suc k) (rw (pow-suc 10 (suc k)) at h)))
  where
    go : (t : Bool) → ltb n 10 ≡ t → length (decimal (n / 10)) ≤ suc k → length (decimal n) ≤ suc (suc k)
    go true e ih = rw (one_digit n (ltb-true n 10 e)) (omega arith)
    go false e ih = rw (more_digits n (ltb-false n 10 e)) (simp length-append (omega arith))

-- an integer of seven digits has no more than eight bytes
pub integer_length : (z : ℤ) → nat_abs z < 10000000 → length (integer_text z) ≤ 8
unfolding integer_text
integer_length (pos n) h = let l = decimal_length 6 n h in omega arith
integer_length (negsuc n) h = let l = decimal_length 6 (suc n) h in omega arith
