-- The equations: where the points are finite, all their values are exactly if the products are. Assumes nothing.
use mathlib.Core.Path.{◌≡◌, refl, sym, ap, ◌∙◌}
use mathlib.Core.Bool.{Bool, true, false, cond}
use mathlib.Core.List.{List, []}
use Prim.Native.Nat.{ℕ, ◌+◌, ◌*◌, ◌/◌, ◌%◌, ◌<◌}
use native.Mathlib.Omega.{arith}
use lib.Dec.{eqb}
use lib.ListN.{get_or}
use lib.Ieee.{nan, of_bits}
use Rattle.binary32.specs.Ranges.{is_finite, all_finite}
use Rattle.elimination.specs.Solve.{Row, row, values}
use Rattle.elimination.proofs.Tables.{get_d_table, both, every_at}
use Rattle.elimination.proofs.Finite.{one_finite, none_finite, parts_finite, gathered_at, gathered_true, at_finite}
use Rattle.elimination.proofs.Sound.{FiniteMatrix, matrix_at, matrix_true, values_finite}
use Rattle.sheet.specs.declared.Position.{Position}
use Rattle.binary32.specs.Numbers.{nought, one}
use Rattle.sheet.specs.Corners.{finite_position}
use Rattle.homography.specs.Normalize.{point, finite_points}
use Rattle.homography.specs.Equations.{first_of, second_of, equation, equations, products_of, equation_steps}

nought_finite : is_finite nought ≡ true
unfolding is_finite of_bits
nought_finite = refl

one_is_finite : is_finite one ≡ true
unfolding is_finite of_bits
one_is_finite = refl

module _ (p q : Position) (fp : finite_position p ≡ true) (fq : finite_position q ≡ true) (e : all_finite (products_of p q) ≡ true) where
  px : (is_finite p.x ≡ true) × (is_finite p.y ≡ true)
  px = both (is_finite p.x) (is_finite p.y) fp

  qx : (is_finite q.x ≡ true) × (is_finite q.y ≡ true)
  qx = both (is_finite q.x) (is_finite q.y) fq

  first_finite : all_finite (first_of p q) ≡ true
  first_finite =
      let r = parts_finite _ _ e in
      one_finite _ _ px.0 (one_finite _ _ px.1 (one_finite _ _ one_is_finite (one_finite _ _ nought_finite (one_finite _ _ nought_finite (one_finite _ _ nought_finite
      (one_finite _ _ r.0 (one_finite _ _ (parts_finite _ _ r.1).0 (one_finite _ _ qx.0 none_finite))))))))

  second_finite : all_finite (second_of p q) ≡ true
  second_finite =
      let r = parts_finite _ _ (parts_finite _ _ (parts_finite _ _ e).1).1 in
      one_finite _ _ nought_finite (one_finite _ _ nought_finite (one_finite _ _ nought_finite (one_finite _ _ px.0 (one_finite _ _ px.1 (one_finite _ _ one_is_finite
      (one_finite _ _ r.0 (one_finite _ _ (parts_finite _ _ r.1).0 (one_finite _ _ qx.1 none_finite))))))))

  equation_finite : (i j : ℕ) → j < 9 → is_finite (get_or (equation i p q) j nan) ≡ true
  unfolding equation
  equation_finite i j h = go (eqb (i % 2) 0)
    where
      go : (t : Bool) → is_finite (get_or (cond t (first_of p q) (second_of p q)) j nan) ≡ true
      go true = at_finite (first_of p q) first_finite j h
      go false = at_finite (second_of p q) second_finite j h

module _ (ps qs : List Position) where
  equation_at : (i : ℕ) → i < 8 → row (equations ps qs) i ≡ equation i (point ps (i / 2)) (point qs (i / 2))
  unfolding equations
  equation_at i h = get_d_table 8 (λ i. equation i (point ps (i / 2)) (point qs (i / 2))) i [] h

  first_at : (k : ℕ) → k < 4 → row (equations ps qs) (2 * k) ≡ first_of (point ps k) (point qs k)
  unfolding equation
  first_at k h = let e : 2 * k / 2 ≡ k = omega arith in let z : 2 * k % 2 ≡ 0 = omega arith in equation_at (2 * k) (omega arith) ∙ rw (e, z)

  second_at : (k : ℕ) → k < 4 → row (equations ps qs) (2 * k + 1) ≡ second_of (point ps k) (point qs k)
  unfolding equation
  second_at k h = let e : (2 * k + 1) / 2 ≡ k = omega arith in let z : (2 * k + 1) % 2 ≡ 1 = omega arith in equation_at (2 * k + 1) (omega arith) ∙ rw (e, z)

  -- the products are among the values
  pub products_finite : all_finite (values (equations ps qs)) ≡ true → all_finite (equation_steps ps qs) ≡ true
  unfolding equation_steps
  products_finite e = gathered_true 4 (λ k. products_of (point ps k) (point qs k)) at
    where
      f : FiniteMatrix (equations ps qs)
      f = matrix_at (equations ps qs) (sym (values_finite (equations ps qs)) ∙ e)

      a : (k : ℕ) → k < 4 → (j : ℕ) → j < 9 → is_finite (get_or (first_of (point ps k) (point qs k)) j nan) ≡ true
      a k h j l = ap (λ (r : Row). is_finite (get_or r j nan)) (sym (first_at k h)) ∙ f (2 * k) j (omega arith) l

      b : (k : ℕ) → k < 4 → (j : ℕ) → j < 9 → is_finite (get_or (second_of (point ps k) (point qs k)) j nan) ≡ true
      b k h j l = ap (λ (r : Row). is_finite (get_or r j nan)) (sym (second_at k h)) ∙ f (2 * k + 1) j (omega arith) l

      at : (k : ℕ) → k < 4 → all_finite (products_of (point ps k) (point qs k)) ≡ true
      at k h = one_finite _ _ (a k h 6 (omega arith)) (one_finite _ _ (a k h 7 (omega arith)) (one_finite _ _ (b k h 6 (omega arith)) (one_finite _ _ (b k h 7 (omega arith)) none_finite)))

  -- and the other values are those of the points, 0 and 1
  pub equations_finite : finite_points ps ≡ true → finite_points qs ≡ true → all_finite (equation_steps ps qs) ≡ true → all_finite (values (equations ps qs)) ≡ true
  unfolding equation_steps
  equations_finite fp fq e =
      values_finite (equations ps qs) ∙ matrix_true (equations ps qs) (λ i j h l.
      ap (λ (r : Row). is_finite (get_or r j nan)) (equation_at i h) ∙ equation_finite (point ps (i / 2)) (point qs (i / 2))
      (every_at 4 (λ k. finite_position (point ps k)) fp (i / 2) (omega arith)) (every_at 4 (λ k. finite_position (point qs k)) fq (i / 2) (omega arith))
      (gathered_at 4 (λ k. products_of (point ps k) (point qs k)) e (i / 2) (omega arith)) i j l)
