-- The refusals of a line's five numbers, one after the other. Assumes nothing.
use mathlib.Core.Path.{◌≡◌, refl, sym, ap, ap₂, subst, ◌∙◌}
use mathlib.Core.Bool.{false}
use mathlib.Core.List.{List, [], ◌∷◌}
use Prim.Native.Nat.{ℕ, zero, suc, ◌+◌, ◌<◌, ◌≤◌}
use native.Mathlib.Decide.{ℕ_discrete}
use native.Mathlib.Omega.{arith}
use denote.Param.Members.{Mut, Called}
use lib.ListN.{length, get_or}
use Rattle.std.specs.Prelude.{Option, None}
use Rattle.std.specs.Array.{IsFromFnResultFrom, IsFromFnResult}
use Rattle.std.specs.List.{fold, zip}
use Rattle.refusal.specs.declared.Refusal.{Refusal}
use Rattle.labels.specs.Labelled.{any_below}
use Rattle.frame_line.specs.Table.{row_count, letters_at, sort_of, sort_at}
use Rattle.frame_line.specs.Held.{outside_held, refusal_in, refusals_in, is_refusal, number_or_0}
use Rattle.frame_line.specs.declared.HeldLine.{HeldLine}
use Rattle.frame_line.proofs.Checking.{has_is}
use Rattle.frame_line.proofs.Rows.{letters_are}
use Rattle.frame_number.specs.Numbers.{numbers_of, with_number}
use Rattle.frame_number.specs.declared.NumberRefusals.{NumberRefusals}

-- ---- which of them some number has

abbrev pub none_found : List (Option Refusal) → NumberRefusals
none_found each = record { each = each; malformed = false; out_of_range = false; off_sheet = false; unknown_corner = false }

-- one number's refusal more
abbrev pub with_one : NumberRefusals → Option Refusal → NumberRefusals
with_one f r = with_number f (number_or_0 r)

-- what is found of the numbers is what their refusals say
pub record FoundAmong (each : List (Option Refusal)) (f : NumberRefusals) : Type 0 where
  pub same : f.each ≡ each
  pub malformed : f.malformed ≡ any_below 5 (is_refusal (numbers_of each) 1)
  pub out_of_range : f.out_of_range ≡ any_below 5 (is_refusal (numbers_of each) 3)
  pub off_sheet : f.off_sheet ≡ any_below 5 (is_refusal (numbers_of each) 4)
  pub unknown_corner : f.unknown_corner ≡ any_below 5 (is_refusal (numbers_of each) 5)

pub found_of : (each : List (Option Refusal)) → length each ≡ 5 → FoundAmong each (fold with_one (none_found each) each)
unfolding any_below
found_of [] long = absurd (omega (arith, long))
found_of (a ∷ []) long = absurd (omega (arith, long))
found_of (a ∷ b ∷ []) long = absurd (omega (arith, long))
found_of (a ∷ b ∷ c ∷ []) long = absurd (omega (arith, long))
found_of (a ∷ b ∷ c ∷ d ∷ []) long = absurd (omega (arith, long))
found_of (a ∷ b ∷ c ∷ d ∷ e ∷ []) long = record { same = refl; malformed = refl; out_of_range = refl; off_sheet = refl; unknown_corner = refl }
found_of (a ∷ b ∷ c ∷ d ∷ e ∷ f ∷ rest) long = absurd (omega (arith, long))

-- ---- the refusal of each

-- an array that `from_fn` made, by a closure that its calls leave as it is
module _ {F : Type 0} (g : Mut F (ℕ × Unit {0}) (Option Refusal)) (f : F) (h : ℕ → ℕ) (each : List (Option Refusal)) where
  made_from : (i n : ℕ) → ((j : ℕ) (r : Option Refusal) (q : F) → j < i + n → Called g f (j, tt) r q → (q ≡ f) × (number_or_0 r ≡ h j)) → IsFromFnResultFrom g f each i n
      → (k : ℕ) → i ≤ k → k < i + n → number_or_0 (get_or each k None) ≡ h k
  made_from i zero gives e k low high = absurd (omega arith)
  made_from i (suc n) gives e k low high = go (ℕ_discrete k i) (λ l. made_from (i + 1) n (λ j r q b. gives j r q (omega arith)) rest k l (omega arith))
    where
      here : (e.0 ≡ f) × (number_or_0 e.1 ≡ h i)
      here = gives i e.1 e.0 (omega arith) e.3

      rest : IsFromFnResultFrom g f each (i + 1) n
      rest = subst (λ (q : F). IsFromFnResultFrom g q each (i + 1) n) here.0 e.4

      go : Dec (k ≡ i) → (i + 1 ≤ k → number_or_0 (get_or each k None) ≡ h k) → number_or_0 (get_or each k None) ≡ h k
      go (yes q) more = rw q (ap number_or_0 (e.2.1 None) ∙ here.1)
      go (no q) more = more (omega arith)

  made_at : (n : ℕ) → IsFromFnResult g f each n → ((j : ℕ) (r : Option Refusal) (q : F) → j < n → Called g f (j, tt) r q → (q ≡ f) × (number_or_0 r ≡ h j)) → (k : ℕ) → k < n
      → number_or_0 (get_or each k None) ≡ h k
  made_at n e gives k l = made_from 0 n (λ j r q b. gives j r q (omega arith)) e.each k (omega arith) (omega arith)

-- five numbers, one by one
five_are : (h : ℕ → ℕ) (each : List (Option Refusal)) → length each ≡ 5 → ((k : ℕ) → k < 5 → number_or_0 (get_or each k None) ≡ h k) → numbers_of each ≡ h 0 ∷ h 1 ∷ h 2 ∷ h 3 ∷ h 4 ∷ []
five_are h [] long at = absurd (omega (arith, long))
five_are h (a ∷ []) long at = absurd (omega (arith, long))
five_are h (a ∷ b ∷ []) long at = absurd (omega (arith, long))
five_are h (a ∷ b ∷ c ∷ []) long at = absurd (omega (arith, long))
five_are h (a ∷ b ∷ c ∷ d ∷ []) long at = absurd (omega (arith, long))
five_are h (a ∷ b ∷ c ∷ d ∷ e ∷ []) long at =
    ap₂ ◌∷◌ (at 0 (omega arith)) (ap₂ ◌∷◌ (at 1 (omega arith)) (ap₂ ◌∷◌ (at 2 (omega arith)) (ap₂ ◌∷◌ (at 3 (omega arith)) (ap₂ ◌∷◌ (at 4 (omega arith)) refl))))
five_are h (a ∷ b ∷ c ∷ d ∷ e ∷ f ∷ rest) long at = absurd (omega (arith, long))

module _ (n : ℕ) (l : HeldLine) (few : l.row < row_count) where
  -- the refusal of a number, by its letter and its word
  abbrev pub refusal_by_letter : ℕ → ℕ
  refusal_by_letter m = refusal_in n (sort_of (get_or (letters_at l.row) m 0)) (get_or l.values m 0)

  refusals : List ℕ → List ℕ
  refusals ls =
      refusal_in n (sort_of (get_or ls 0 0)) (get_or l.values 0 0) ∷ refusal_in n (sort_of (get_or ls 1 0)) (get_or l.values 1 0)
      ∷ refusal_in n (sort_of (get_or ls 2 0)) (get_or l.values 2 0) ∷ refusal_in n (sort_of (get_or ls 3 0)) (get_or l.values 3 0)
      ∷ refusal_in n (sort_of (get_or ls 4 0)) (get_or l.values 4 0) ∷ []

  refusals_are : refusals (letters_at l.row) ≡ refusals_in n l
  unfolding refusals sort_at refusals_in
  refusals_are = rw (← letters_are l.row few) refl

  -- those that are made of its letters and words are the definition's
  pub made_are : {F : Type 0} (g : Mut F (ℕ × Unit {0}) (Option Refusal)) (f : F) (each : List (Option Refusal)) → IsFromFnResult g f each 5
      → ((j : ℕ) (r : Option Refusal) (q : F) → j < 5 → Called g f (j, tt) r q → (q ≡ f) × (number_or_0 r ≡ refusal_by_letter j)) → numbers_of each ≡ refusals_in n l
  unfolding refusals
  made_are g f each e gives = five_are refusal_by_letter each e.long (made_at g f refusal_by_letter each 5 e gives) ∙ refusals_are

-- ---- a number by its letter and its word

abbrev pub by_letter : ℕ → NumberRefusals → ℕ × ℕ → NumberRefusals
by_letter n f x = with_number f (refusal_in n (sort_of x.0) x.1)

-- what is found of a line is what the definition says of its numbers
pub record FoundOf (n : ℕ) (l : HeldLine) (f : NumberRefusals) : Type 0 where
  pub malformed : f.malformed ≡ outside_held 1 n l
  pub out_of_range : f.out_of_range ≡ outside_held 3 n l
  pub off_sheet : f.off_sheet ≡ outside_held 4 n l
  pub unknown_corner : f.unknown_corner ≡ outside_held 5 n l

-- five words, one by one
words_in : List ℕ → List ℕ
words_in v = get_or v 0 0 ∷ get_or v 1 0 ∷ get_or v 2 0 ∷ get_or v 3 0 ∷ get_or v 4 0 ∷ []

words_are : (v : List ℕ) → length v ≡ 5 → words_in v ≡ v
unfolding words_in
words_are [] long = absurd (omega (arith, long))
words_are (a ∷ []) long = absurd (omega (arith, long))
words_are (a ∷ b ∷ []) long = absurd (omega (arith, long))
words_are (a ∷ b ∷ c ∷ []) long = absurd (omega (arith, long))
words_are (a ∷ b ∷ c ∷ d ∷ []) long = absurd (omega (arith, long))
words_are (a ∷ b ∷ c ∷ d ∷ e ∷ []) long = refl
words_are (a ∷ b ∷ c ∷ d ∷ e ∷ f ∷ rest) long = absurd (omega (arith, long))

-- whatever refusals stand there at the start
module _ (n : ℕ) (l : HeldLine) (few : l.row < row_count) (long : length l.values ≡ 5) (each : List (Option Refusal)) where
  lists_are : zip (words_in (letters_at l.row)) (words_in l.values) ≡ zip (letters_at l.row) l.values
  lists_are = ap₂ zip (words_are (letters_at l.row) (sym (ap length (letters_are l.row few)))) (words_are l.values long)

  found_words : FoundOf n l (fold (by_letter n) (none_found each) (zip (words_in (letters_at l.row)) (words_in l.values)))
  unfolding words_in refusals any_below
  found_words =
      record {
        malformed = has_is n l (omega arith) (refusals_are n l few) refl;
        out_of_range = has_is n l (omega arith) (refusals_are n l few) refl;
        off_sheet = has_is n l (omega arith) (refusals_are n l few) refl;
        unknown_corner = has_is n l (omega arith) (refusals_are n l few) refl;
      }

  pub found_line : FoundOf n l (fold (by_letter n) (none_found each) (zip (letters_at l.row) l.values))
  found_line = subst (λ (xs : List (ℕ × ℕ)). FoundOf n l (fold (by_letter n) (none_found each) xs)) lists_are found_words
