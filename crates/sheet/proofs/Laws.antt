-- Laws of cells: signed sums that the machine holds; place and cell are inverse of each other; places rise by i, then j.
-- Assumes nothing.
use mathlib.Core.Path.{◌≡◌, refl, sym, ap, ap₂, ◌∙◌}
use mathlib.Core.Bool.{Bool, true, false, not, ◌&&◌, ◌||◌, true≢false}
use Prim.Native.Nat.{ℕ, zero, suc, ◌+◌, ◌-◌, ◌*◌, ◌/◌, ◌%◌, ◌<◌, ◌≤◌}
use native.Mathlib.Omega.{arith}
use lib.IntN.{ℤ, pos, negsuc, neg_ℤ, ◌+ℤ◌, ◌-ℤ◌, nat_abs, sub_ℕ}
use lib.Signed.{le_z, lt_z}
use lib.Dec.{T, leb, ltb, eqb, leb→le, le→leb}
use borrow.Author.Tests.{le-ltb, lt-ltb, ltb-true, ltb-false, le-leb, lt-leb, eq-eqb, ne_eqb, eqb-true, eqb-false}
use mir.Syntax.{w32}
use mir.Val.{SFits, to_z, of_z}
use mir.Facts.{and_yes, yes_and, to_z-of_z}
use Rattle.sheet.specs.Cells.{in_range, on_sheet, OnSheet, line_of, place_of, cell_of, difference_of, eq_z, earlier, Within, NearSheet}
use Rattle.sheet.specs.declared.Cell.{Cell}

-- ---- a - b of two naturals, by which is larger

pub sub_lo : (a b : ℕ) → a < b → sub_ℕ a b ≡ negsuc (b - suc a)
sub_lo a b h = simp (lt-ltb a b h)

pub sub_hi : (a b : ℕ) → b ≤ a → sub_ℕ a b ≡ pos (a - b)
sub_hi a b h = simp (le-ltb a b h)

-- ---- magnitudes, and signed sums as the machine has them

abs_subℕ : (a b : ℕ) → nat_abs (sub_ℕ a b) ≤ a + b
abs_subℕ a b = go (ltb a b) refl
  where
    go : (t : Bool) → ltb a b ≡ t → nat_abs (sub_ℕ a b) ≤ a + b
    go true e = let h : a < b = ltb-true a b e in rw e (omega arith)
    go false e = rw e (omega arith)

pub abs_neg : (z : ℤ) → nat_abs (neg_ℤ z) ≡ nat_abs z
abs_neg (pos zero) = refl
abs_neg (pos (suc n)) = refl
abs_neg (negsuc n) = refl

pub abs_add : (x y : ℤ) → nat_abs (x +ℤ y) ≤ nat_abs x + nat_abs y
abs_add (pos a) (pos b) = omega arith
abs_add (pos a) (negsuc b) = abs_subℕ a (suc b)
abs_add (negsuc a) (pos b) = omega (arith, abs_subℕ b (suc a))
abs_add (negsuc a) (negsuc b) = omega arith

pub abs_sub : (x y : ℤ) → nat_abs (x -ℤ y) ≤ nat_abs x + nat_abs y
abs_sub x y = rw abs_neg at (abs_add x (neg_ℤ y))

-- a number of magnitude below 2 ^ 31 fits, and is read back as it was
pub fits : (z : ℤ) → nat_abs z < 2147483648 → SFits w32 z
fits (pos n) h = record { sfits = omega arith }
fits (negsuc n) h = record { sfits = omega arith }

pub read_back : (z : ℤ) → nat_abs z < 2147483648 → to_z w32 (of_z w32 z) ≡ z
read_back z h = to_z-of_z (fits z h)

-- a sum and a difference of two numbers that are small enough fit, and are read back
module _ (x y : ℤ) (small : nat_abs x + nat_abs y < 2147483648) where
  x_back : to_z w32 (of_z w32 x) ≡ x
  x_back = read_back x (omega arith)

  y_back : to_z w32 (of_z w32 y) ≡ y
  y_back = read_back y (omega arith)

  pub sum_fits : SFits w32 (to_z w32 (of_z w32 x) +ℤ to_z w32 (of_z w32 y))
  sum_fits = rw (x_back, y_back) (fits (x +ℤ y) (omega (arith, abs_add x y)))

  pub sum_read : to_z w32 (of_z w32 (to_z w32 (of_z w32 x) +ℤ to_z w32 (of_z w32 y))) ≡ x +ℤ y
  sum_read = to_z-of_z sum_fits ∙ ap₂ ◌+ℤ◌ x_back y_back

  pub sub_fits : SFits w32 (to_z w32 (of_z w32 x) -ℤ to_z w32 (of_z w32 y))
  sub_fits = rw (x_back, y_back) (fits (x -ℤ y) (omega (arith, abs_sub x y)))

  pub sub_read : to_z w32 (of_z w32 (to_z w32 (of_z w32 x) -ℤ to_z w32 (of_z w32 y))) ≡ x -ℤ y
  sub_read = to_z-of_z sub_fits ∙ ap₂ ◌-ℤ◌ x_back y_back

-- ---- a coordinate in range, as a number from 0 to 127, and back

pub record Line (z : ℤ) : Type 0 where
  pub small : nat_abs z ≤ 64
  pub up : z +ℤ pos 64 ≡ pos (line_of z)
  pub below : line_of z < 128
  pub back : sub_ℕ (line_of z) 64 ≡ z

pub lined : (z : ℤ) → T (in_range z) → Line z
lined (pos n) h =
    let k : n ≤ 63 = leb→le n 63 h in
    record { small = omega arith; up = refl; below = omega arith; back = sub_hi (n + 64) 64 (omega arith) ∙ ap pos (omega arith) }
lined (negsuc n) h =
    let k : n ≤ 63 = leb→le n 63 (and_yes (leb n 63) true h).0 in
    let e : negsuc n +ℤ pos 64 ≡ pos (63 - n) = sub_hi 64 (suc n) (omega arith) ∙ ap pos (omega arith) in
    record {
      small = omega arith;
      up = rw e refl;
      below = rw e (omega arith);
      back = rw e (sub_lo (63 - n) 64 (omega arith) ∙ ap negsuc (omega arith));
    }

-- r - 64 is in range, and its number is r
pub record Unlined (r : ℕ) : Type 0 where
  pub inside : T (in_range (sub_ℕ r 64))
  pub line : line_of (sub_ℕ r 64) ≡ r

pub unlined : (r : ℕ) → r < 128 → Unlined r
unlined r h = go (ltb r 64) refl
  where
    go : (b : Bool) → ltb r 64 ≡ b → Unlined r
    go true e =
        let k : r < 64 = ltb-true r 64 e in
        record {
          inside = rw (sub_lo r 64 k) (yes_and (leb (64 - suc r) 63) true (le→leb (64 - suc r) 63 (omega arith)) tt);
          line = rw (sub_lo r 64 k, sub_hi 64 (suc (64 - suc r)) (omega arith)) (omega arith);
        }
    go false e =
        let k : 64 ≤ r = ltb-false r 64 e in
        record {
          inside = rw (sub_hi r 64 k) (le→leb (r - 64) 63 (omega arith));
          line = rw (sub_hi r 64 k) (omega arith);
        }

-- ---- cells on the sheet

pub on_i : (c : Cell) → OnSheet c → T (in_range c.i)
unfolding on_sheet
on_i c h = (and_yes (in_range c.i) (in_range c.j) h).0

pub on_j : (c : Cell) → OnSheet c → T (in_range c.j)
unfolding on_sheet
on_j c h = (and_yes (in_range c.i) (in_range c.j) h).1

pub on_both : (c : Cell) → T (in_range c.i) → T (in_range c.j) → OnSheet c
unfolding on_sheet
on_both c hi hj = yes_and (in_range c.i) (in_range c.j) hi hj

pub line_i : (c : Cell) → OnSheet c → Line c.i
line_i c h = lined c.i (on_i c h)

pub line_j : (c : Cell) → OnSheet c → Line c.j
line_j c h = lined c.j (on_j c h)

-- a cell on the sheet, and one at most 128 away from it, is near
pub on_near : (c : Cell) → OnSheet c → NearSheet c
on_near c h = let a = line_i c h in let b = line_j c h in record { i_near = omega arith; j_near = omega arith }

-- two near cells differ by at most 400 each way
pub difference_within : (a b : Cell) → NearSheet a → NearSheet b → Within 1000 (difference_of a b)
difference_within a b g h = record { di_small = omega (arith, abs_sub a.i b.i); dj_small = omega (arith, abs_sub a.j b.j) }

-- a place is below 16384
pub place_in : (c : Cell) → OnSheet c → place_of c < 16384
unfolding place_of
place_in c h = let a = line_i c h in let b = line_j c h in omega arith

-- each place below 16384 has a cell on the sheet
pub cell_on_lem : (p : ℕ) → p < 16384 → OnSheet (cell_of p)
unfolding cell_of
cell_on_lem p h = on_both (cell_of p) (unlined (p / 128) (omega arith)).inside (unlined (p % 128) (omega arith)).inside

-- place and cell are inverse of each other
pub place_cell : (p : ℕ) → p < 16384 → place_of (cell_of p) ≡ p
unfolding place_of cell_of
place_cell p h = rw ((unlined (p / 128) (omega arith)).line, (unlined (p % 128) (omega arith)).line) (omega arith)

quot : (r s : ℕ) → s < 128 → (r * 128 + s) / 128 ≡ r
quot r s h = omega arith

rest : (r s : ℕ) → s < 128 → (r * 128 + s) % 128 ≡ s
rest r s h = omega arith

pub cell_place : (c : Cell) → OnSheet c → cell_of (place_of c) ≡ c
unfolding place_of cell_of
cell_place c h =
    let a = line_i c h in
    let b = line_j c h in
    λ t.
    record {
      i = (ap (λ (r : ℕ). sub_ℕ r 64) (quot (line_of c.i) (line_of c.j) b.below) ∙ a.back) t;
      j = (ap (λ (r : ℕ). sub_ℕ r 64) (rest (line_of c.i) (line_of c.j) b.below) ∙ b.back) t;
    }

-- two cells on the sheet with the same place are one
pub place_one : (c d : Cell) → OnSheet c → OnSheet d → place_of c ≡ place_of d → c ≡ d
place_one c d g h e = sym (cell_place c g) ∙ ap cell_of e ∙ cell_place d h

-- ---- places rise by i, then j

flip_ℕ : (a b : ℕ) → leb b a ≡ not (ltb a b)
flip_ℕ a b = go (ltb a b) refl
  where
    go : (t : Bool) → ltb a b ≡ t → leb b a ≡ not t
    go true e = lt-leb b a (ltb-true a b e)
    go false e = le-leb b a (ltb-false a b e)

-- at most is not above
pub flip : (a b : ℤ) → le_z b a ≡ not (lt_z a b)
flip (pos a) (pos b) = flip_ℕ a b
flip (pos a) (negsuc b) = refl
flip (negsuc a) (pos b) = refl
flip (negsuc a) (negsuc b) = flip_ℕ b a

-- equal tests of numbers that are equivalent
same_lt : (a b c d : ℕ) → (a < b → c < d) → (b ≤ a → d ≤ c) → ltb a b ≡ ltb c d
same_lt a b c d f g = go (ltb a b) refl
  where
    go : (t : Bool) → ltb a b ≡ t → t ≡ ltb c d
    go true e = sym (lt-ltb c d (f (ltb-true a b e)))
    go false e = sym (le-ltb c d (g (ltb-false a b e)))

same_eq : (a b c d : ℕ) → (a ≡ b → c ≡ d) → (c ≡ d → a ≡ b) → eqb a b ≡ eqb c d
same_eq a b c d f g = go (eqb a b) refl
  where
    go : (t : Bool) → eqb a b ≡ t → t ≡ eqb c d
    go true e = sym (eq-eqb c d (f (eqb-true a b e)))
    go false e = sym (ne_eqb c d (λ k. eqb-false a b e (g k)))

line_neg : (n : ℕ) → T (in_range (negsuc n)) → line_of (negsuc n) ≡ 63 - n
line_neg n h =
    let k : n ≤ 63 = leb→le n 63 (and_yes (leb n 63) true h).0 in
    ap nat_abs (sub_hi 64 (suc n) (omega arith)) ∙ omega arith

neg_in : (n : ℕ) → T (in_range (negsuc n)) → n ≤ 63
neg_in n h = leb→le n 63 (and_yes (leb n 63) true h).0

pub line_lt : (y z : ℤ) → T (in_range y) → T (in_range z) → ltb (line_of y) (line_of z) ≡ lt_z y z
line_lt (pos a) (pos b) g h = same_lt (a + 64) (b + 64) a b (λ k. omega arith) (λ k. omega arith)
line_lt (pos a) (negsuc b) g h = rw (line_neg b h) (le-ltb (a + 64) (63 - b) (omega arith))
line_lt (negsuc a) (pos b) g h = rw (line_neg a g) (lt-ltb (63 - a) (b + 64) (omega arith))
line_lt (negsuc a) (negsuc b) g h =
    let p = neg_in a g in
    let q = neg_in b h in
    rw (line_neg a g, line_neg b h) (same_lt (63 - a) (63 - b) b a (λ k. omega arith) (λ k. omega arith))

pub line_eq : (y z : ℤ) → T (in_range y) → T (in_range z) → eqb (line_of y) (line_of z) ≡ eq_z y z
line_eq (pos a) (pos b) g h = same_eq (a + 64) (b + 64) a b (λ k. omega arith) (λ k. omega arith)
line_eq (pos a) (negsuc b) g h = rw (line_neg b h) (ne_eqb (a + 64) (63 - b) (λ k. omega arith))
line_eq (negsuc a) (pos b) g h = rw (line_neg a g) (ne_eqb (63 - a) (b + 64) (λ k. omega arith))
line_eq (negsuc a) (negsuc b) g h =
    let p = neg_in a g in
    let q = neg_in b h in
    rw (line_neg a g, line_neg b h) (same_eq (63 - a) (63 - b) a b (λ k. omega arith) (λ k. omega arith))

-- the test of equal numbers holds exactly of equal numbers
pub eq_z_equal : (y z : ℤ) → eq_z y z ≡ true → y ≡ z
eq_z_equal (pos a) (pos b) e = ap pos (eqb-true a b e)
eq_z_equal (pos a) (negsuc b) e = absurd (true≢false (sym e))
eq_z_equal (negsuc a) (pos b) e = absurd (true≢false (sym e))
eq_z_equal (negsuc a) (negsuc b) e = ap negsuc (eqb-true a b e)

pub equal_eq_z : (y z : ℤ) → y ≡ z → eq_z y z ≡ true
equal_eq_z y z e = rw (sym e) (same y)
  where
    same : (x : ℤ) → eq_z x x ≡ true
    same (pos a) = eq-eqb a a refl
    same (negsuc a) = eq-eqb a a refl

-- of two numbers below 128 the first decides, then the second
by_lines : (r s p q : ℕ) → s < 128 → q < 128 → ltb (r * 128 + s) (p * 128 + q) ≡ (ltb r p || (eqb r p && ltb s q))
by_lines r s p q hs hq = go (ltb r p) refl (eqb r p) refl
  where
    go : (t : Bool) → ltb r p ≡ t → (u : Bool) → eqb r p ≡ u → ltb (r * 128 + s) (p * 128 + q) ≡ (t || (u && ltb s q))
    go true e u f = let k : r < p = ltb-true r p e in lt-ltb (r * 128 + s) (p * 128 + q) (omega arith)
    go false e true f = let k : r ≡ p = eqb-true r p f in same_lt (r * 128 + s) (p * 128 + q) s q (λ l. omega arith) (λ l. omega arith)
    go false e false f =
        let k : p ≤ r = ltb-false r p e in
        le-ltb (r * 128 + s) (p * 128 + q) (omega (arith, eqb-false r p f))

-- places rise by i, then j
pub place_rises : (c d : Cell) → OnSheet c → OnSheet d → ltb (place_of c) (place_of d) ≡ earlier c d
unfolding place_of
place_rises c d g h =
    by_lines (line_of c.i) (line_of c.j) (line_of d.i) (line_of d.j) (line_j c g).below (line_j d h).below
    ∙ ap₂ ◌||◌ (line_lt c.i d.i (on_i c g) (on_i d h)) (ap₂ ◌&&◌ (line_eq c.i d.i (on_i c g) (on_i d h)) (line_lt c.j d.j (on_j c g) (on_j d h)))
