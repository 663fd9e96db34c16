-- Normalising: what is looked at once the work is done stands for every step, since a non-finite value of a step leaves the mean
-- distance or a point non-finite. Assumes nothing.
use mathlib.Core.Path.{◌≡◌, refl, sym, ap, ap₂, ◌∙◌}
use mathlib.Core.Bool.{Bool, true, false, cond, ◌&&◌, true≢false}
use mathlib.Core.List.{List, [], ◌∷◌, ◌++◌}
use Prim.Native.Nat.{ℕ, zero, suc, ◌<◌}
use native.Mathlib.Omega.{arith}
use Rattle.std.specs.Prelude.{Ok, Err, Some, None, fold}
use Rattle.std.specs.Result.{result_ok}
use lib.ListN.{length, get_or}
use lib.Ieee.{Float, nan, inf, fin, binary32, neg, lt, of_bits, to_bits}
use Rattle.std.specs.Bool.{then_some}
use Rattle.binary32.specs.Ranges.{is_finite, all_finite}
use Rattle.binary32.specs.Sqrt.{units_of, reaches, climb, rooted, sqrt_or_nan}
use Rattle.elimination.specs.Rounded.{◌⊕◌, ◌⊖◌, ◌⊗◌, ◌⊘◌}
use Rattle.elimination.specs.Tables.{table, concatenated}
use Rattle.elimination.proofs.Tables.{get_d_table, table_is, both, same, every_true, every_at}
use Rattle.elimination.proofs.Finite.{add_finite, mul_finite, div_finite, one_finite, none_finite, parts_finite, joined, apart, gathered_at, gathered_true}
use Rattle.sheet.specs.declared.Position.{Position}
use Rattle.binary32.specs.Numbers.{nought, one}
use Rattle.sheet.specs.Corners.{finite_position}
use Rattle.homography.specs.declared.Normalization.{Normalization}
use Rattle.homography.specs.Normalize.{two, four, tiny, point, total, mean, mean_steps, of_four, squares, distance, distance_steps, scale_of, scale_steps, centre_x, centre_y, distance_at, mean_distance, normalization_of, row_sum, row_steps, forward, forward_steps, map_row, map_steps, moved, normalized, centre_steps, spread_steps, matrix_steps, moved_steps, points_steps, normal_steps, finite_points, normalized_of}

-- the root of two
pub root_two : sqrt_or_nan two ≡ of_bits binary32 0x3fb5_04f3
unfolding rooted climb reaches units_of to_bits of_bits
root_two = refl

-- ---- a mean

module _ (a b c d : Float) where
  -- the four numbers, where their mean is finite
  pub record Four : Type 0 where
    pub first : is_finite a ≡ true
    pub second : is_finite b ≡ true
    pub third : is_finite c ≡ true
    pub fourth : is_finite d ≡ true

  module _ (e : is_finite (mean a b c d) ≡ true) where
    whole : is_finite (total a b c d) ≡ true
    unfolding mean
    whole = div_finite binary32 (total a b c d) four e

    p3 : (is_finite (nought ⊕ a ⊕ b ⊕ c) ≡ true) × (is_finite d ≡ true)
    p3 = add_finite binary32 (nought ⊕ a ⊕ b ⊕ c) d whole

    p2 : (is_finite (nought ⊕ a ⊕ b) ≡ true) × (is_finite c ≡ true)
    p2 = add_finite binary32 (nought ⊕ a ⊕ b) c p3.0

    p1 : (is_finite (nought ⊕ a) ≡ true) × (is_finite b ≡ true)
    p1 = add_finite binary32 (nought ⊕ a) b p2.0

    pub mean_four : Four
    mean_four = record { first = (add_finite binary32 nought a p1.0).1; second = p1.1; third = p2.1; fourth = p3.1 }

    pub mean_steps_lem : all_finite (mean_steps a b c d) ≡ true
    unfolding mean_steps
    mean_steps_lem = one_finite _ _ p1.0 (one_finite _ _ p2.0 (one_finite _ _ p3.0 (one_finite _ _ whole (one_finite _ _ e none_finite))))

  pub mean_last : all_finite (mean_steps a b c d) ≡ true → is_finite (mean a b c d) ≡ true
  unfolding mean_steps
  mean_last e = (parts_finite _ _ (parts_finite _ _ (parts_finite _ _ (parts_finite _ _ (parts_finite _ _ e).1).1).1).1).0

-- ---- a distance

root_finite : (x : Float) → is_finite (sqrt_or_nan x) ≡ true → is_finite x ≡ true
unfolding rooted is_finite
root_finite nan e = e
root_finite (inf s) e = absurd (true≢false (sym e))
root_finite (fin s m d) e = refl

distance_steps_lem : (cx cy : Float) (p : Position) → is_finite (distance cx cy p) ≡ true → all_finite (distance_steps cx cy p) ≡ true
unfolding distance_steps
distance_steps_lem cx cy p e =
    let dx = p.x ⊖ cx in
    let dy = p.y ⊖ cy in
    let q = root_finite (squares dx dy) (unfold distance in e) in
    let w = add_finite binary32 (dx ⊗ dx) (dy ⊗ dy) q in
    one_finite _ _ (mul_finite binary32 dx dx w.0).0
    (one_finite _ _ (mul_finite binary32 dy dy w.1).0 (one_finite _ _ w.0 (one_finite _ _ w.1 (one_finite _ _ q (one_finite _ _ e none_finite)))))

-- ---- the scale

scale_steps_lem : (d : Float) → is_finite (scale_of d) ≡ true → all_finite (scale_steps d) ≡ true
unfolding scale_of scale_steps
scale_steps_lem d e = go (lt tiny d) e
  where
    go : (t : Bool) → is_finite (cond t (sqrt_or_nan two ⊘ d) one) ≡ true → all_finite (cond t (sqrt_or_nan two ∷ sqrt_or_nan two ⊘ d ∷ []) []) ≡ true
    go true e = one_finite _ _ (div_finite binary32 (sqrt_or_nan two) d e) (one_finite _ _ e none_finite)
    go false e = none_finite

-- ---- a row's sum

-- the six numbers, where the sum is finite
pub record Factors (a b c x y z : Float) : Type 0 where
  pub fa : is_finite a ≡ true
  pub fb : is_finite b ≡ true
  pub fc : is_finite c ≡ true
  pub fx : is_finite x ≡ true
  pub fy : is_finite y ≡ true
  pub fz : is_finite z ≡ true

module _ (a b c x y z : Float) where
  module _ (e : is_finite (row_sum a b c x y z) ≡ true) where
    outer : (is_finite (a ⊗ x ⊕ b ⊗ y) ≡ true) × (is_finite (c ⊗ z) ≡ true)
    outer = add_finite binary32 (a ⊗ x ⊕ b ⊗ y) (c ⊗ z) e

    inner : (is_finite (a ⊗ x) ≡ true) × (is_finite (b ⊗ y) ≡ true)
    inner = add_finite binary32 (a ⊗ x) (b ⊗ y) outer.0

    pub row_factors : Factors a b c x y z
    row_factors =
        let p = mul_finite binary32 a x inner.0 in
        let q = mul_finite binary32 b y inner.1 in
        let r = mul_finite binary32 c z outer.1 in
        record { fa = p.0; fb = q.0; fc = r.0; fx = p.1; fy = q.1; fz = r.1 }

    pub row_steps_lem : all_finite (row_steps a b c x y z) ≡ true
    unfolding row_steps
    row_steps_lem = one_finite _ _ inner.0 (one_finite _ _ inner.1 (one_finite _ _ outer.0 (one_finite _ _ outer.1 (one_finite _ _ e none_finite))))

  pub row_last : all_finite (row_steps a b c x y z) ≡ true → is_finite (row_sum a b c x y z) ≡ true
  unfolding row_steps
  row_last e = (parts_finite _ _ (parts_finite _ _ (parts_finite _ _ (parts_finite _ _ (parts_finite _ _ e).1).1).1).1).0

-- ---- all four points

module _ (ps : List Position) where
  abbrev by : Normalization
  by = normalization_of ps

  abbrev t : List Float
  t = forward by

  at_point : (i : ℕ) → i < 4 → point (normalized ps) i ≡ moved t (point ps i)
  unfolding normalized
  at_point i h = get_d_table 4 (λ i. moved t (point ps i)) i (record { x = nan; y = nan }) h

  module _ (d : is_finite (mean_distance ps) ≡ true) (f : finite_points (normalized ps) ≡ true) where
    at_row : (i : ℕ) → i < 4 → (is_finite (map_row t 0 (point ps i)) ≡ true) × (is_finite (map_row t 1 (point ps i)) ≡ true)
    unfolding moved
    at_row i h = both _ _ (sym (ap finite_position (at_point i h)) ∙ every_at 4 (λ i. finite_position (point (normalized ps) i)) f i h)

    steps_at : (i : ℕ) → i < 4 → all_finite (map_steps t 0 (point ps i) ++ map_steps t 1 (point ps i)) ≡ true
    unfolding map_row map_steps
    steps_at i h = joined (map_steps t 0 (point ps i)) (map_steps t 1 (point ps i)) (row_steps_lem _ _ _ _ _ _ (at_row i h).0) (row_steps_lem _ _ _ _ _ _ (at_row i h).1)

    row0 : Factors by.scale nought (neg by.scale ⊗ by.cx) (point ps 0).x (point ps 0).y one
    unfolding map_row forward
    row0 = row_factors _ _ _ _ _ _ (at_row 0 (omega arith)).0

    row1 : Factors nought by.scale (neg by.scale ⊗ by.cy) (point ps 0).x (point ps 0).y one
    unfolding map_row forward
    row1 = row_factors _ _ _ _ _ _ (at_row 0 (omega arith)).1

    x_finite : is_finite (centre_x ps) ≡ true
    unfolding normalization_of
    x_finite = (mul_finite binary32 (neg by.scale) by.cx row0.fc).1

    y_finite : is_finite (centre_y ps) ≡ true
    unfolding normalization_of
    y_finite = (mul_finite binary32 (neg by.scale) by.cy row1.fc).1

    scale_finite : is_finite (scale_of (mean_distance ps)) ≡ true
    unfolding normalization_of
    scale_finite = row0.fa

    distances : Four (distance_at ps 0) (distance_at ps 1) (distance_at ps 2) (distance_at ps 3)
    distances = mean_four _ _ _ _ d

    distance_at_lem : (i : ℕ) → i < 4 → is_finite (distance_at ps i) ≡ true
    distance_at_lem zero h = distances.first
    distance_at_lem (suc zero) h = distances.second
    distance_at_lem (suc (suc zero)) h = distances.third
    distance_at_lem (suc (suc (suc zero))) h = distances.fourth
    distance_at_lem (suc (suc (suc (suc i)))) h = absurd (omega arith)

    normal_down : all_finite (normal_steps ps) ≡ true
    unfolding normal_steps forward_steps
    normal_down =
        joined (centre_steps ps ++ spread_steps ps ++ matrix_steps ps) (points_steps ps)
        (joined (centre_steps ps ++ spread_steps ps) (matrix_steps ps)
        (joined (centre_steps ps) (spread_steps ps) (joined _ _ (mean_steps_lem _ _ _ _ x_finite) (mean_steps_lem _ _ _ _ y_finite))
        (joined _ _ (gathered_true 4 (λ i. distance_steps (centre_x ps) (centre_y ps) (point ps i)) (λ i h. distance_steps_lem (centre_x ps) (centre_y ps) (point ps i) (distance_at_lem i h))) (mean_steps_lem _ _ _ _ d)))
        (joined _ _ (scale_steps_lem (mean_distance ps) scale_finite) (one_finite _ _ row0.fc (one_finite _ _ row1.fc none_finite))))
        (gathered_true 4 (λ i. moved_steps t (point ps i)) steps_at)

  module _ (e : all_finite (normal_steps ps) ≡ true) where
    parts : (all_finite (centre_steps ps ++ spread_steps ps ++ matrix_steps ps) ≡ true) × (all_finite (points_steps ps) ≡ true)
    unfolding normal_steps
    parts = apart (centre_steps ps ++ spread_steps ps ++ matrix_steps ps) (points_steps ps) e

    spread : all_finite (spread_steps ps) ≡ true
    spread = (apart (centre_steps ps) (spread_steps ps) (apart (centre_steps ps ++ spread_steps ps) (matrix_steps ps) parts.0).0).1

    point_up : (i : ℕ) → i < 4 → finite_position (point (normalized ps) i) ≡ true
    unfolding moved map_row map_steps
    point_up i h =
        let w = apart (map_steps t 0 (point ps i)) (map_steps t 1 (point ps i)) (gathered_at 4 (λ i. moved_steps t (point ps i)) parts.1 i h) in
        ap finite_position (at_point i h) ∙ ap₂ (λ (s t : Bool). s && t) (row_last _ _ _ _ _ _ w.0) (row_last _ _ _ _ _ _ w.1)

    -- the mean distance and the points are finite where every step is
    pub normal_up : (is_finite (mean_distance ps) ≡ true) × (finite_points (normalized ps) ≡ true)
    normal_up = (
      mean_last _ _ _ _ (apart (concatenated 4 (λ i. distance_steps (centre_x ps) (centre_y ps) (point ps i))) (of_four mean_steps (distance_at ps)) spread).1,
      every_true 4 (λ i. finite_position (point (normalized ps) i)) point_up,
    )

  pub normal_finite : (is_finite (mean_distance ps) && finite_points (normalized ps)) ≡ all_finite (normal_steps ps)
  normal_finite =
      same (is_finite (mean_distance ps) && finite_points (normalized ps)) (all_finite (normal_steps ps))
      (λ e. let w = both (is_finite (mean_distance ps)) (finite_points (normalized ps)) e in normal_down w.0 w.1)
      (λ e. let w = normal_up e in ap₂ (λ (s t : Bool). s && t) w.0 w.1)

-- ---- as the code has it: the centre, the distances and their mean d, the scale s, the matrix m, and the points

-- four numbers summed one after the other
pub summed : (xs : List Float) → length xs ≡ 4 → fold (λ a x. a ⊕ x) nought xs ⊘ four ≡ of_four mean (λ i. get_or xs i nan)
unfolding table mean
summed xs e = rw (table_is 4 (λ i. get_or xs i nan) xs nan e (λ i h. refl))

-- the mean of four that stand in a table
mean_table : (f : ℕ → Float) {xs : List Float} {a : Float} → xs ≡ table 4 f → a ≡ of_four mean (λ i. get_or xs i nan) → a ≡ of_four mean f
unfolding table
mean_table f e q = q ∙ rw e

module _ (ps : List Position) {cx cy d s : Float} {xs ys ds m : List Float} {qs : List Position} {ok : Bool}
    (exs : xs ≡ table 4 (λ i. (point ps i).x)) (ex : cx ≡ of_four mean (λ i. get_or xs i nan))
    (eys : ys ≡ table 4 (λ i. (point ps i).y)) (ey : cy ≡ of_four mean (λ i. get_or ys i nan))
    (eds : ds ≡ table 4 (λ i. distance cx cy (point ps i))) (ed : d ≡ of_four mean (λ i. get_or ds i nan))
    (es : s ≡ scale_of d) (em : m ≡ forward (record { scale = s; cx = cx; cy = cy }))
    (eqs : qs ≡ table 4 (λ i. moved m (point ps i))) (eok : ok ≡ (is_finite d && finite_points qs)) where
  x_is : cx ≡ centre_x ps
  x_is = mean_table (λ i. (point ps i).x) exs ex

  y_is : cy ≡ centre_y ps
  y_is = mean_table (λ i. (point ps i).y) eys ey

  mean_is : d ≡ mean_distance ps
  mean_is = mean_table (λ i. distance cx cy (point ps i)) eds ed ∙ rw (x_is, y_is)

  by_is : record { scale = s; cx = cx; cy = cy } ≡ normalization_of ps
  unfolding normalization_of
  by_is = let e = es ∙ ap scale_of mean_is in λ i. record { scale = e i; cx = x_is i; cy = y_is i }

  points_are : qs ≡ normalized ps
  unfolding normalized
  points_are = eqs ∙ rw (em, by_is)

  ok_is : ok ≡ all_finite (normal_steps ps)
  ok_is = eok ∙ rw (mean_is, points_are) (normal_finite ps)

  pub normalized_is : cond ok (Ok (record { points = qs; by = record { scale = s; cx = cx; cy = cy } })) (Err (record { points = qs; by = record { scale = s; cx = cx; cy = cy } })) ≡ normalized_of ps
  normalized_is = rw (← ok_is, points_are, by_is)

  pub normalized_ok : ok ≡ true → Ok (record { points = qs; by = record { scale = s; cx = cx; cy = cy } }) ≡ normalized_of ps
  normalized_ok e = rw (← normalized_is, e)

  pub normalized_err : ok ≡ false → Err (record { points = qs; by = record { scale = s; cx = cx; cy = cy } }) ≡ normalized_of ps
  normalized_err e = rw (← normalized_is, e)

  -- and those that count alone, none where they do not
  pub normalized_some : ok ≡ true → Some (record { points = qs; by = record { scale = s; cx = cx; cy = cy } }) ≡ result_ok (normalized_of ps)
  normalized_some e = ap result_ok (normalized_ok e)

  pub normalized_none : ok ≡ false → None ≡ result_ok (normalized_of ps)
  normalized_none e = ap result_ok (normalized_err e)

  pub normalized_by_count : then_some ok (record { points = qs; by = record { scale = s; cx = cx; cy = cy } }) ≡ result_ok (normalized_of ps)
  normalized_by_count = go ok refl
    where
      go : (t : Bool) → ok ≡ t → then_some t (record { points = qs; by = record { scale = s; cx = cx; cy = cy } }) ≡ result_ok (normalized_of ps)
      go true e = normalized_some e
      go false e = normalized_none e
