-- Laws of tests over lists, of the test of equal cells, and of cells moved. Assumes nothing.
use mathlib.Core.Path.{◌≡◌, refl, sym, ap, ◌∙◌}
use mathlib.Core.Bool.{Bool, true, false, cond, ◌&&◌}
use mathlib.Core.List.Memᴰ
use mathlib.Core.List.{List, [], ◌∷◌, Memᴰ}
use mathlib.Core.Logic.{◌⊎◌, inl, inr, ⊎_elim}
use lib.IntN.{ℤ, ◌+ℤ◌, ◌-ℤ◌, +ℤ_comm, +ℤ-neg_ℤ_cancel}
use Rattle.sheet.specs.Cells.{eq_z, moved, difference_of}
use Rattle.sheet.specs.declared.Cell.{Cell}
use Rattle.sheet.specs.declared.Offset.{Offset}
use Rattle.sheet.proofs.Laws.{eq_z_equal, equal_eq_z}
use Rattle.labels.proofs.Below.{no_both, both}
use Rattle.join.specs.Join.{every, kept, same_cell}

both_yes : (a b : Bool) → a ≡ true → b ≡ true → (a && b) ≡ true
both_yes a b p q = rw (p, q)

module _ {A : Type 0} (f : A → Bool) where
  pub every_yes : (l : List A) → every f l ≡ true → (a : A) → Memᴰ a l → f a ≡ true
  unfolding every
  every_yes [] e a m = absurd (Memᴰ.not-nil m)
  every_yes (b ∷ l) e a m = let h = both (f b) (every f l) e in ⊎_elim (λ d. ap f d ∙ h.0) (every_yes l h.1 a) (Memᴰ.cases_cons m)

  pub every_all : (l : List A) → ((a : A) → Memᴰ a l → f a ≡ true) → every f l ≡ true
  unfolding every
  every_all [] h = refl
  every_all (b ∷ l) h = both_yes (f b) (every f l) (h b (Memᴰ.head refl)) (every_all l (λ a m. h a (Memᴰ.tail m)))

  -- what is kept
  pub kept_in : (l : List A) (a : A) → Memᴰ a (kept f l) → Memᴰ a l × (f a ≡ true)
  unfolding kept
  kept_in [] a m = absurd (Memᴰ.not-nil m)
  kept_in (b ∷ l) a m = go (λ n. let r = kept_in l a n in (Memᴰ.tail r.0, r.1)) (f b) refl m
    where
      go : (Memᴰ a (kept f l) → Memᴰ a (b ∷ l) × (f a ≡ true)) → (t : Bool) → f b ≡ t → Memᴰ a (cond t (b ∷ kept f l) (kept f l))
          → Memᴰ a (b ∷ l) × (f a ≡ true)
      go w true e n = ⊎_elim (λ d. (Memᴰ.head d, ap f d ∙ e)) w (Memᴰ.cases_cons n)
      go w false e n = w n

  pub in_kept : (l : List A) (a : A) → Memᴰ a l → f a ≡ true → Memᴰ a (kept f l)
  unfolding kept
  in_kept [] a m e = absurd (Memᴰ.not-nil m)
  in_kept (b ∷ l) a m e = go (λ n. in_kept l a n e) (f b) refl (Memᴰ.cases_cons m)
    where
      go : (Memᴰ a l → Memᴰ a (kept f l)) → (t : Bool) → f b ≡ t → (a ≡ b) ⊎ Memᴰ a l
          → Memᴰ a (cond t (b ∷ kept f l) (kept f l))
      go w true k (inl d) = Memᴰ.head d
      go w true k (inr n) = Memᴰ.tail (w n)
      go w false k (inl d) = absurd (no_both (f b) (sym (ap f d) ∙ e) k)
      go w false k (inr n) = w n

-- ---- cells

pub same_cell_lem : (a b : Cell) → same_cell a b ≡ true → a ≡ b
same_cell_lem a b e =
    let h = both (eq_z a.i b.i) (eq_z a.j b.j) e in
    λ t. record { i = eq_z_equal a.i b.i h.0 t; j = eq_z_equal a.j b.j h.1 t }

pub cell_same : (a b : Cell) → a ≡ b → same_cell a b ≡ true
cell_same a b e =
    both_yes (eq_z a.i b.i) (eq_z a.j b.j) (equal_eq_z a.i b.i (ap (λ (c : Cell). c.i) e))
    (equal_eq_z a.j b.j (ap (λ (c : Cell). c.j) e))

pub by_cell : {A : Type 0} (c d : Cell) → (c ≡ d → A) → ((c ≡ d → ⊥) → A) → A
by_cell {A} c d f g = go (same_cell c d) refl
  where
    go : (t : Bool) → same_cell c d ≡ t → A
    go true e = f (same_cell_lem c d e)
    go false e = g (λ p. no_both (same_cell c d) (cell_same c d p) e)

-- a cell moved and its difference from where it was
pub difference_moved : (c : Cell) (d : Offset) → difference_of (moved c d) c ≡ d
difference_moved c d = λ t. record { di = back c.i d.di t; dj = back c.j d.dj t }
  where
    back : (x y : ℤ) → (x +ℤ y) -ℤ x ≡ y
    back x y = ap (λ (z : ℤ). z -ℤ x) (+ℤ_comm x y) ∙ +ℤ-neg_ℤ_cancel y x

-- two cells that are one when moved are one
pub moved_one : (c e : Cell) (d : Offset) → moved c d ≡ moved e d → c ≡ e
moved_one c e d p =
    λ t. record { i = back c.i e.i d.di (ap (λ (x : Cell). x.i) p) t; j = back c.j e.j d.dj (ap (λ (x : Cell). x.j) p) t }
  where
    back : (x y z : ℤ) → x +ℤ z ≡ y +ℤ z → x ≡ y
    back x y z q = sym (+ℤ-neg_ℤ_cancel x z) ∙ ap (λ (w : ℤ). w -ℤ z) q ∙ +ℤ-neg_ℤ_cancel y z
