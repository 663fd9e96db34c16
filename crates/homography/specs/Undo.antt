-- "Undoing: (T⁻¹·H)·S, H being the eight answers row by row and a 1, sums left to right, zeros included" (document 01, "Fit").
-- Definitions only.
use Rattle.std.specs.Prelude.{List, [], ◌∷◌, ◌++◌, ℕ, ◌+◌, ◌*◌, ◌/◌, ◌%◌, get_or, Float}
use Rattle.std.specs.Float.{nan}
use Rattle.elimination.specs.Rounded.{◌⊘◌}
use Rattle.elimination.specs.Tables.{table, concatenated}
use Rattle.binary32.specs.Numbers.{nought, one}
use Rattle.homography.specs.declared.Normalization.{Normalization}
use Rattle.homography.specs.Normalize.{row_sum, row_steps, forward}

-- "T⁻¹ having rows (1/s 0 cx), (0 1/s cy), (0 0 1)"
unfoldable pub backward : Normalization → List Float
backward n =
    one ⊘ n.scale ∷ nought ∷ n.cx
    ∷ nought ∷ one ⊘ n.scale ∷ n.cy
    ∷ nought ∷ nought ∷ one ∷ []

abbrev pub backward_steps : Normalization → List Float
backward_steps n = one ⊘ n.scale ∷ []

-- a product of two matrices: entry n is the sum of row n / 3 of the one and column n % 3 of the other
abbrev pub crossed : {A : Type 0} → (Float → Float → Float → Float → Float → Float → A) → List Float → List Float → ℕ → A
crossed sum a b n =
    let i = 3 * (n / 3) in
    let j = n % 3 in
    sum (get_or a i nan) (get_or a (i + 1) nan) (get_or a (i + 2) nan) (get_or b j nan) (get_or b (3 + j) nan) (get_or b (6 + j) nan)

unfoldable pub multiplied : List Float → List Float → List Float
multiplied a b = table 9 (crossed row_sum a b)

unfoldable pub multiplied_steps : List Float → List Float → List Float
multiplied_steps a b = concatenated 9 (crossed row_steps a b)

-- H: the eight answers row by row and a 1
abbrev pub answers_and_one : List Float → List Float
answers_and_one xs = xs ++ one ∷ []

-- T⁻¹·H, and that times S
abbrev pub half_undone : List Float → Normalization → List Float
half_undone xs t = multiplied (backward t) (answers_and_one xs)

unfoldable pub undone : List Float → Normalization → Normalization → List Float
undone xs s t = multiplied (half_undone xs t) (forward s)

-- the values of the steps; those of S are steps of the normalisation
unfoldable pub undo_steps : List Float → Normalization → Normalization → List Float
undo_steps xs s t =
    backward_steps t ++ multiplied_steps (backward t) (answers_and_one xs)
    ++ multiplied_steps (half_undone xs t) (forward s)
