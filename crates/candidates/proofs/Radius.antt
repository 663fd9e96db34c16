-- The squared radius is finite, as the laws on distances ask: for every radius up to 2^63, and so for those of document 01's ranges,
-- search times cell size, and that times boundary. Assumes nothing.
use mathlib.Core.Path.{◌≡◌, refl}
use mathlib.Core.Bool.{true, false, and-eq-true_iff}
use lib.Dec.{T}
use lib.IntN.{pos, negsuc}
use lib.Ieee.{Float, fin, binary32, mul, le, of_int}
use lib.Ieee.Scale.{finite}
use Rattle.float_order.specs.Unsigned.{unsigned}
use Rattle.float_order.proofs.Order.{le_trans}
use Rattle.float_order.proofs.Magnitude.{magnitude_from_zero, mul_within, mul_bounded}
use Rattle.binary32.specs.declared.ranges.Quantity.TheVariants.{CellSize, Multiple}
use Rattle.binary32.specs.Ranges.{ends_of, in_range}
use Rattle.candidates.specs.Candidates.{squared_radius}

-- 2^63
abbrev pub top : Float
top = fin false 1 (pos 63)

pub small_radius : (r : Float) → le (unsigned r) top ≡ true → T (finite (squared_radius r))
small_radius r h = mul_bounded binary32 r r top top tt tt tt tt (unfold mul in tt) h h

-- 0 to 16
multiple : (x : Float) → in_range Multiple x ≡ true → le (unsigned x) (fin false 1 (pos 4)) ≡ true
unfolding ends_of of_int
multiple x h =
    let low = le (fin false 0 (pos 0)) x in
    let high = le x (fin false 1 (pos 4)) in
    magnitude_from_zero x (fin false 1 (pos 4)) tt ((and-eq-true_iff low high).0 h).0 ((and-eq-true_iff low high).0 h).1

-- 2^-10 to 16,384
cell : (x : Float) → in_range CellSize x ≡ true → le (unsigned x) (fin false 1 (pos 14)) ≡ true
unfolding ends_of of_int
cell x h =
    let low = le (fin false 1 (negsuc 9)) x in
    let high = le x (fin false 1 (pos 14)) in
    magnitude_from_zero x (fin false 1 (pos 14)) tt (le_trans (fin false 0 (pos 0)) (fin false 1 (negsuc 9)) x (unfold le in refl) ((and-eq-true_iff low high).0 h).0) ((and-eq-true_iff low high).0 h).1

module _ (search size : Float) (s : in_range Multiple search ≡ true) (c : in_range CellSize size ≡ true) where
  within : le (unsigned (mul binary32 search size)) (fin false 1 (pos 18)) ≡ true
  unfolding mul
  within = mul_within binary32 search size (fin false 1 (pos 4)) (fin false 1 (pos 14)) tt tt tt tt (multiple search s) (cell size c)

  -- search times cell size
  pub search_radius : T (finite (squared_radius (mul binary32 search size)))
  search_radius = small_radius (mul binary32 search size) (le_trans (unsigned (mul binary32 search size)) (fin false 1 (pos 18)) top within (unfold le in refl))

  -- and that times boundary
  pub boundary_radius : (boundary : Float) → in_range Multiple boundary ≡ true → T (finite (squared_radius (mul binary32 (mul binary32 search size) boundary)))
  boundary_radius boundary b =
      small_radius (mul binary32 (mul binary32 search size) boundary)
      (le_trans (unsigned (mul binary32 (mul binary32 search size) boundary)) (mul binary32 (fin false 1 (pos 18)) (fin false 1 (pos 4))) top
      (mul_within binary32 (mul binary32 search size) boundary (fin false 1 (pos 18)) (fin false 1 (pos 4)) tt tt tt tt within (multiple boundary b))
      (unfold le mul in refl))
