-- The rules of the table: the code's table holds the rows; and each by one test that antt computes over all rows, the numbers of a form are apart, and no two forms can be taken for each other. Assumes nothing.
use mathlib.Core.Path.{◌≡◌, refl, sym, ap, ◌∙◌}
use mathlib.Core.Bool.{Bool, true, false, not}
use mathlib.Core.List.{List, [], ◌∷◌, map}
use Prim.Native.Nat.{ℕ, ◌<◌, ◌≤◌}
use borrow.Author.Tests.{leb-true, not-true}
use lib.Dec.{leb}
use lib.ListN.{length, get_or, take, drop}
use Rattle.std.proofs.lemmas.List.{get_or-map}
use Rattle.line_form.specs.Forms.{is_slot, misfit, fit_of, second_is, apart}
use Rattle.line_form.proofs.Told.{told, second_misfits}
use Rattle.line_form.proofs.Every.{every_below, every_at, same_list, same_list_holds}
use Rattle.frame_line.specs.Table.{rows, row_count, stage_count, letters_from, form_from, row_at, kinds, kind_at, form_at, letters_at, turn_by, turn_at}
use Rattle.frame_line.specs.declared.Row.{Row}

pub rows_long : length rows ≡ row_count
unfolding rows
rows_long = refl

abbrev letters_in : ℕ → List ℕ
letters_in k =
    let l = letters_at k in
    get_or l 0 0 ∷ get_or l 1 0 ∷ get_or l 2 0 ∷ get_or l 3 0 ∷ get_or l 4 0 ∷ []

module _ (k : ℕ) (h : k < row_count) where
  at : (f : ℕ → Bool) → every_below row_count f ≡ true → f k ≡ true
  at f e = every_at f row_count e k h

  -- each form has a second byte
  pub form_long : 2 ≤ length (form_at k)
  unfolding form_at row_at rows
  form_long = leb-true 2 (length (form_at k)) (at (λ j. leb 2 (length (form_at j))) refl)

  -- a line whose second byte is not that of the form
  pub second_other : (line : List ℕ) → second_is (get_or (form_at k) 1 0) line ≡ false → fit_of (form_at k) line ≡ misfit
  unfolding form_at row_at rows
  second_other line e =
      rw (same_list_holds (form_at k) (starts k) (at (λ j. same_list (form_at j) (starts j)) refl))
      (second_misfits _ _ _ line refl (not-true _ (at (λ j. not (is_slot (get_or (form_at j) 1 0))) refl)) e)
    where
      -- an opening bracket, and the byte behind it
      starts : ℕ → List ℕ
      starts j = 40 ∷ get_or (form_at j) 1 0 ∷ drop 2 (form_at j)

  -- the letters of a row, one by one
  pub letters_are : letters_in k ≡ letters_at k
  unfolding row_at rows
  letters_are = same_list_holds (letters_in k) (letters_at k) (at (λ j. same_list (letters_in j) (letters_at j)) refl)

  -- after each # of a form stands a byte that ends an integer
  pub apart_at : apart (form_at k) ≡ true
  unfolding form_at row_at rows apart
  apart_at = at (λ j. apart (form_at j)) refl

  -- no form is taken for one behind it
  pub told_at : (j : ℕ) → j < k → told (form_at j) (form_at k) ≡ true
  unfolding told form_at row_at rows
  told_at j l = every_at (λ i. told (form_at i) (form_at k)) k (at (λ i. every_below i (λ j. told (form_at j) (form_at i))) refl) j l

-- ---- the code's table

-- a field of each row, by the list of what the fields are
field_at : {A B : Type 0} (f : A → B) (xs : List A) (d : A) {ys : List B} (e : B) (k : ℕ) → k < length xs → map f xs ≡ ys → f (get_or xs k d) ≡ get_or ys k e
field_at f xs d e k h p = sym (get_or-map f xs k d e h) ∙ ap (λ (l : List _). get_or l k e) p

part_at : (f : List ℕ → List ℕ) (k : ℕ) → k < row_count → get_or (map f rows) k [] ≡ f (row_at k)
unfolding row_at
part_at f k h = get_or-map f rows k [] [] (rw rows_long h)

module _ (xs : List Row) (d : Row) (k : ℕ) (h : k < length xs) where
  pub kind_is : map (λ r. r.kind) xs ≡ kinds → (get_or xs k d).kind ≡ kind_at k
  unfolding kind_at
  kind_is p = field_at (λ r. r.kind) xs d _ k h p

  module _ (few : k < row_count) where
    pub form_is : map (λ r. r.form.now) xs ≡ map (drop form_from) rows → (get_or xs k d).form.now ≡ form_at k
    unfolding form_at
    form_is p = field_at (λ r. r.form.now) xs d [] k h p ∙ part_at (drop form_from) k few

    pub letters_held : map (λ r. r.letters) xs ≡ map (λ r. take 5 (drop letters_from r)) rows → (get_or xs k d).letters ≡ letters_at k
    letters_held p = field_at (λ r. r.letters) xs d [] k h p ∙ part_at (λ r. take 5 (drop letters_from r)) k few

    turns_are : map (λ r. r.turns) xs ≡ map (take stage_count) rows → (get_or xs k d).turns ≡ take stage_count (row_at k)
    turns_are p = field_at (λ r. r.turns) xs d [] k h p ∙ part_at (take stage_count) k few

    pub turn_is : (s : ℕ) → map (λ r. r.turns) xs ≡ map (take stage_count) rows → turn_by (get_or (get_or xs k d).turns s 46) ≡ turn_at s k
    unfolding turn_at
    turn_is s p = ap turn_by (ap (λ (t : List ℕ). get_or t s 46) (turns_are p))
