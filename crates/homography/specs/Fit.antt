-- The fit of document 01: four cells and their four pictured corners give nine entries, or no fit; and how a point maps.
-- Definitions only.
use Rattle.std.specs.Prelude.{Bool, cond, ◌&&◌, not, List, ◌++◌, get_or, Option, Some, None, Float}
use Rattle.std.specs.Float.{nan}
use Rattle.std.specs.Float.Ieee.{lt}
use Rattle.binary32.specs.Ranges.{is_finite, all_finite}
use Rattle.elimination.specs.Rounded.{◌⊘◌, magnitude}
use Rattle.elimination.specs.Tables.{table, every}
use Rattle.elimination.specs.Solve.{Matrix, no_zero_pivot, solve_steps, answers_of}
use Rattle.sheet.specs.declared.Position.{Position}
use Rattle.homography.specs.Normalize.{tiny, map_row, normalization_of, normalized, normal_steps}
use Rattle.homography.specs.Equations.{equations, equation_steps}
use Rattle.homography.specs.Undo.{undone, undo_steps}

-- what a fit answers: no fit, or nine entries row by row
abbrev pub Answer : Type 0
Answer = Option (List Float)

-- ---- the last entry

abbrev pub last_of : List Float → Float
last_of h = get_or h 8 nan

-- "A last entry of magnitude below 10^-12 (binary32) means no fit"
abbrev pub small : List Float → Bool
small h = lt (magnitude (last_of h)) tiny

-- "else all nine are divided by it"
unfoldable pub quotients : List Float → List Float
quotients h = table 9 (λ n. get_or h n nan ⊘ last_of h)

-- whether all nine of a matrix are finite
abbrev pub finite_entries : List Float → Bool
finite_entries h = every 9 (λ n. is_finite (get_or h n nan))

-- so a matrix gives its quotients, unless its last entry is small or a quotient is not finite
unfoldable pub scaled_of : List Float → Answer
scaled_of h = cond (not (small h) && all_finite (quotients h)) (Some (quotients h)) None

-- ---- the fit

-- the equations of the normalised points
abbrev pub equations_of : List Position → List Position → Matrix
equations_of cells corners = equations (normalized cells) (normalized corners)

-- the nine entries before they are divided by the last
unfoldable pub unscaled : List Position → List Position → List Float
unscaled cells corners = undone (answers_of (equations_of cells corners)) (normalization_of cells) (normalization_of corners)

-- the values of all steps of the fit
unfoldable pub fit_steps : List Position → List Position → List Float
fit_steps cells corners =
    normal_steps cells ++ normal_steps corners ++ equation_steps (normalized cells) (normalized corners)
    ++ solve_steps (equations_of cells corners)
    ++ undo_steps (answers_of (equations_of cells corners)) (normalization_of cells) (normalization_of corners)
    ++ quotients (unscaled cells corners)

-- a zero pivot, a small last entry and "a non-finite value at any step of the fit" each mean no fit
abbrev pub fits : List Position → List Position → Bool
fits cells corners = no_zero_pivot (equations_of cells corners) && (not (small (unscaled cells corners)) && all_finite (fit_steps cells corners))

unfoldable pub homography_of : List Position → List Position → Answer
homography_of cells corners = cond (fits cells corners) (Some (quotients (unscaled cells corners))) None

-- ---- a point

-- "A point maps by row sums left to right, the first two divided by the third"
unfoldable pub applied : List Float → Position → Position
applied h p = record { x = map_row h 0 p ⊘ map_row h 2 p; y = map_row h 1 p ⊘ map_row h 2 p }
