-- "Both point sets are normalised in the order of `normalize_points4`, matrix rows summed left to right" (document 01, "Fit").
-- Each value that a step gives is named beside what it is a step of. Definitions only.
use Rattle.std.specs.Prelude.{Bool, cond, List, [], ◌∷◌, ◌++◌, ℕ, ◌+◌, ◌*◌, get_or, Result, Ok, Err, Float}
use Rattle.std.specs.Float.{nan, binary32}
use Rattle.std.specs.Float.Ieee.{neg, lt, of_bits}
use Rattle.binary32.specs.Ranges.{all_finite}
use Rattle.binary32.specs.Sqrt.{sqrt_or_nan}
use Rattle.elimination.specs.Rounded.{◌⊕◌, ◌⊖◌, ◌⊗◌, ◌⊘◌}
use Rattle.elimination.specs.Tables.{table, concatenated, every}
use Rattle.sheet.specs.declared.Position.{Position}
use Rattle.binary32.specs.Numbers.{nought, one}
use Rattle.sheet.specs.Corners.{finite_position}
use Rattle.homography.specs.declared.Normalization.{Normalization}
use Rattle.homography.specs.declared.Normalized.{Normalized}

-- 2.0, 4.0, and 10^-12 in binary32
abbrev pub two : Float
two = of_bits binary32 0x4000_0000

abbrev pub four : Float
four = of_bits binary32 0x4080_0000

abbrev pub tiny : Float
tiny = of_bits binary32 0x2b8c_bccc

-- point i of a list
abbrev pub point : List Position → ℕ → Position
point ps i = get_or ps i (record { x = nan; y = nan })

-- ---- centre, mean distance and scale

-- four numbers summed in their order, from 0, and their mean
abbrev pub total : Float → Float → Float → Float → Float
total a b c d = nought ⊕ a ⊕ b ⊕ c ⊕ d

unfoldable pub mean : Float → Float → Float → Float → Float
mean a b c d = total a b c d ⊘ four

unfoldable pub mean_steps : Float → Float → Float → Float → List Float
mean_steps a b c d = nought ⊕ a ∷ nought ⊕ a ⊕ b ∷ nought ⊕ a ⊕ b ⊕ c ∷ total a b c d ∷ mean a b c d ∷ []

-- of the numbers at 0, 1, 2 and 3
abbrev pub of_four : {A : Type 0} → (Float → Float → Float → Float → A) → (ℕ → Float) → A
of_four g f = g (f 0) (f 1) (f 2) (f 3)

-- the distance of a point from the centre
abbrev pub squares : Float → Float → Float
squares dx dy = dx ⊗ dx ⊕ dy ⊗ dy

unfoldable pub distance : Float → Float → Position → Float
distance cx cy p = sqrt_or_nan (squares (p.x ⊖ cx) (p.y ⊖ cy))

unfoldable pub distance_steps : Float → Float → Position → List Float
distance_steps cx cy p =
    let dx = p.x ⊖ cx in
    let dy = p.y ⊖ cy in
    dx ∷ dy ∷ dx ⊗ dx ∷ dy ⊗ dy ∷ squares dx dy ∷ distance cx cy p ∷ []

-- the root of two by the mean distance; a mean distance of at most 10^-12 gives scale 1
unfoldable pub scale_of : Float → Float
scale_of d = cond (lt tiny d) (sqrt_or_nan two ⊘ d) one

unfoldable pub scale_steps : Float → List Float
scale_steps d = cond (lt tiny d) (sqrt_or_nan two ∷ sqrt_or_nan two ⊘ d ∷ []) []

abbrev pub centre_x : List Position → Float
centre_x ps = of_four mean (λ i. (point ps i).x)

abbrev pub centre_y : List Position → Float
centre_y ps = of_four mean (λ i. (point ps i).y)

abbrev pub distance_at : List Position → ℕ → Float
distance_at ps i = distance (centre_x ps) (centre_y ps) (point ps i)

abbrev pub mean_distance : List Position → Float
mean_distance ps = of_four mean (distance_at ps)

unfoldable pub normalization_of : List Position → Normalization
normalization_of ps = record { scale = scale_of (mean_distance ps); cx = centre_x ps; cy = centre_y ps }

-- ---- matrices, nine entries row by row

-- a row's sum, left to right
abbrev pub row_sum : Float → Float → Float → Float → Float → Float → Float
row_sum a b c x y z = a ⊗ x ⊕ b ⊗ y ⊕ c ⊗ z

unfoldable pub row_steps : Float → Float → Float → Float → Float → Float → List Float
row_steps a b c x y z = a ⊗ x ∷ b ⊗ y ∷ a ⊗ x ⊕ b ⊗ y ∷ c ⊗ z ∷ row_sum a b c x y z ∷ []

-- the matrix with rows (s 0 -s·cx), (0 s -s·cy), (0 0 1)
unfoldable pub forward : Normalization → List Float
forward n =
    n.scale ∷ nought ∷ neg n.scale ⊗ n.cx
    ∷ nought ∷ n.scale ∷ neg n.scale ⊗ n.cy
    ∷ nought ∷ nought ∷ one ∷ []

unfoldable pub forward_steps : Normalization → List Float
forward_steps n = neg n.scale ⊗ n.cx ∷ neg n.scale ⊗ n.cy ∷ []

-- row r of a matrix and a point with a 1 below it: their sum, and the values of its steps
abbrev pub with_point : {A : Type 0} → (Float → Float → Float → Float → Float → Float → A) → List Float → ℕ → Position → A
with_point sum h r p = sum (get_or h (3 * r) nan) (get_or h (3 * r + 1) nan) (get_or h (3 * r + 2) nan) p.x p.y one

unfoldable pub map_row : List Float → ℕ → Position → Float
map_row h r p = with_point row_sum h r p

unfoldable pub map_steps : List Float → ℕ → Position → List Float
map_steps h r p = with_point row_steps h r p

-- ---- the points

-- the first two row sums: the third is not read
unfoldable pub moved : List Float → Position → Position
moved t p = record { x = map_row t 0 p; y = map_row t 1 p }

unfoldable pub normalized : List Position → List Position
normalized ps = table 4 (λ i. moved (forward (normalization_of ps)) (point ps i))

-- the values of the steps: of the centre, of the distances and their mean, of the scale and the matrix, and of the points
abbrev pub centre_steps : List Position → List Float
centre_steps ps = of_four mean_steps (λ i. (point ps i).x) ++ of_four mean_steps (λ i. (point ps i).y)

abbrev pub spread_steps : List Position → List Float
spread_steps ps = concatenated 4 (λ i. distance_steps (centre_x ps) (centre_y ps) (point ps i)) ++ of_four mean_steps (distance_at ps)

abbrev pub matrix_steps : List Position → List Float
matrix_steps ps = scale_steps (mean_distance ps) ++ forward_steps (normalization_of ps)

abbrev pub moved_steps : List Float → Position → List Float
moved_steps t p = map_steps t 0 p ++ map_steps t 1 p

abbrev pub points_steps : List Position → List Float
points_steps ps = concatenated 4 (λ i. moved_steps (forward (normalization_of ps)) (point ps i))

unfoldable pub normal_steps : List Position → List Float
normal_steps ps = centre_steps ps ++ spread_steps ps ++ matrix_steps ps ++ points_steps ps

-- the points and what they are normalised by: `Err` holds those of which a step's value is not finite
abbrev pub normalized_of : List Position → Result Normalized Normalized
normalized_of ps =
    let n : Normalized = record { points = normalized ps; by = normalization_of ps } in
    cond (all_finite (normal_steps ps)) (Ok n) (Err n)

-- ---- what is looked at once the work is done: whether both numbers of each point are finite

abbrev pub finite_points : List Position → Bool
finite_points ps = every 4 (λ i. finite_position (point ps i))
