-- The union: each label of the first set at its cell, each of the second at its moved cell, nothing else, each corner once and each cell
-- once; and a sheet can hold it. Assumes nothing.
use Rattle.std.specs.Prelude.{Option, Some, None}
use mathlib.Core.Path.{◌≡◌, refl, sym, ap, ◌∙◌, subst}
use mathlib.Core.Bool.{Bool, true, false, cond, not}
use mathlib.Core.List.Memᴰ
use mathlib.Core.List.{List, [], ◌∷◌, ◌++◌, map, Memᴰ}
use mathlib.Core.Logic.{⊎_elim}
use Rattle.sheet.specs.Cells.{moved}
use Rattle.sheet.specs.declared.Offset.{Offset}
use Rattle.labels.proofs.Below.{no_both}
use Rattle.sheet.specs.declared.Cell.{Cell}
use Rattle.join.specs.Rule.{Placed, shifted_by, Fits, OntoSheet, All, Differ, Once, OneOf, of_first, of_second, UnionBy}
use Rattle.join.specs.Join.{kept, cell_in, is_found, new_by, union, UnionOfBoth}
use Rattle.join.specs.Sheets.{Holdable}
use Rattle.join.proofs.Lists.{kept_in, in_kept, moved_one}
use Rattle.join.proofs.Meaning.{cell_found, not_found}

-- ---- all of a list

module _ {A : Type 0} (P : A → Type 0) where
  pub all_of : (l : List A) → ((a : A) → Memᴰ a l → P a) → All P l
  all_of [] h = tt
  all_of (b ∷ l) h = (h b (Memᴰ.head refl), all_of l (λ a m. h a (Memᴰ.tail m)))

  pub of_all : (l : List A) → All P l → (a : A) → Memᴰ a l → P a
  of_all [] s a m = absurd (Memᴰ.not-nil m)
  of_all (b ∷ l) s a m = ⊎_elim (λ d. subst P (sym d) s.0) (of_all l s.1 a) (Memᴰ.cases_cons m)

-- ---- each corner once and each cell once

once_append : (l m : List Placed) → Once l → Once m → ((a b : Placed) → Memᴰ a l → Memᴰ b m → Differ a b) → Once (l ++ m)
once_append [] m s t h = t
once_append (a ∷ l) m s t h = (
  all_of (Differ a) (l ++ m) (λ b n. ⊎_elim (of_all (Differ a) l s.0 b) (h a b (Memᴰ.head refl)) (Memᴰ.append_cases l n)),
  once_append l m s.1 t (λ b c p q. h b c (Memᴰ.tail p) q),
)

once_kept : (f : Placed → Bool) (l : List Placed) → Once l → Once (kept f l)
unfolding kept
once_kept f [] s = tt
once_kept f (a ∷ l) s = go (f a) (once_kept f l s.1)
  where
    go : (t : Bool) → Once (kept f l) → Once (cond t (a ∷ kept f l) (kept f l))
    go true w = (all_of (Differ a) (kept f l) (λ b m. of_all (Differ a) l s.0 b (kept_in f l b m).0), w)
    go false w = w

once_moved : (d : Offset) (l : List Placed) → Once l → Once (map (shifted_by d) l)
once_moved d [] s = tt
once_moved d (a ∷ l) s = (all_moved l s.0, once_moved d l s.1)
  where
    all_moved : (m : List Placed) → All (Differ a) m → All (Differ (shifted_by d a)) (map (shifted_by d) m)
    all_moved [] t = tt
    all_moved (b ∷ m) t =
        (record { cells = λ e. t.0.cells (moved_one a.cell b.cell d e); corners = t.0.corners }, all_moved m t.1)

-- ---- the union by a shift

module _ (first second : List Placed) (d : Offset) (f : Fits first second d) where
  new : Placed → Bool
  new l = not (is_found (cell_in first l.corner))

  is_new : (l : Placed) → cell_in first l.corner ≡ None → new l ≡ true
  unfolding new is_found
  is_new l e = rw e

  new_is : (l : Placed) → new l ≡ true → cell_in first l.corner ≡ None
  unfolding new is_found
  new_is l e = go (cell_in first l.corner) e
    where
      go : (x : Option Cell) → not (is_found x) ≡ true → x ≡ None
      go None h = refl
      go (Some c) h = absurd (no_both false h refl)

  second_there : (b : Placed) → Memᴰ b second → Memᴰ (shifted_by d b) (union first second d)
  unfolding union new_by new
  second_there b m = go (cell_in first b.corner) refl
    where
      go : (x : Option Cell) → cell_in first b.corner ≡ x → Memᴰ (shifted_by d b) (first ++ kept new (map (shifted_by d) second))
      go None e =
          Memᴰ.append_right first (in_kept new (map (shifted_by d) second) (shifted_by d b) (Memᴰ.map (shifted_by d) m) (is_new (shifted_by d b) e))
      go (Some c) e =
          let r = cell_found first b.corner c e in
          let p : r.label.cell ≡ moved b.cell d = f.one_cell r.label b r.listed m r.its_corner in
          Memᴰ.append_left _ (Memᴰ.cast (λ t. record { corner = sym r.its_corner t; cell = sym p t }) r.listed)

  only_these : (l : Placed) → Memᴰ l (union first second d) → OneOf first second d l
  unfolding union new_by new
  only_these l m = ⊎_elim of_first moved_there (Memᴰ.append_cases first m)
    where
      moved_there : Memᴰ l (kept new (map (shifted_by d) second)) → OneOf first second d l
      moved_there q =
          let r = Memᴰ.of_map (shifted_by d) second (kept_in new (map (shifted_by d) second) l q).0 in of_second r.0 r.1 (sym r.2)

  once_each : Once first → Once second → Once (union first second d)
  unfolding union new_by new
  once_each s t = once_append first _ s (once_kept new (map (shifted_by d) second) (once_moved d second t)) differ
    where
      differ : (a b : Placed) → Memᴰ a first → Memᴰ b (kept new (map (shifted_by d) second)) → Differ a b
      differ a b p q =
          let k = kept_in new (map (shifted_by d) second) b q in
          let r = Memᴰ.of_map (shifted_by d) second k.0 in
          let other : a.corner ≡ b.corner → ⊥ = not_found first b.corner (new_is b k.1) a p in
          record {
            cells = λ e.
                other (f.one_corner a r.0 p r.1 (e ∙ ap (λ (x : Placed). x.cell) (sym r.2)) ∙ ap (λ (x : Placed). x.corner) r.2);
            corners = other;
          }

  union_each : Once first → Once second → UnionBy first second d (union first second d)
  unfolding union
  union_each s t = record { has_first = λ a m. Memᴰ.append_left _ m; has_second = second_there; no_other = only_these; once = once_each s t }

  -- a sheet can hold the union if it can hold both sets and the shift goes onto it
  pub union_holdable : OntoSheet second d → All Holdable first → All Holdable second → All Holdable (union first second d)
  union_holdable o s t = all_of Holdable (union first second d) (λ l m. go l (only_these l m))
    where
      go : (l : Placed) → OneOf first second d l → Holdable l
      go l (of_first p) = of_all Holdable first s l p
      go l (of_second b n e) = subst Holdable (sym e) (record { on = o.on b n; small = (of_all Holdable second t b n).small })

-- "so that every shared corner has one cell and every cell one corner, and passes run on the union"
pub union_is : UnionOfBoth
union_is first second d f = union_each first second d f
