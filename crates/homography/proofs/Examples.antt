-- Two worked examples, computed from the definitions: a square that goes to one twice as large, moved, and corners that lie together.
-- Assumes nothing.
use mathlib.Core.Path.{◌≡◌, refl}
use mathlib.Core.Bool.{false}
use mathlib.Core.List.{List, [], ◌∷◌}
use lib.IntN.{pos}
use Rattle.std.specs.Prelude.{Some, None}
use lib.Ieee.{Float, fin, of_bits, to_bits, add, sub, mul, div, neg, lt, eq}
use Rattle.binary32.specs.Ranges.{is_finite, all_finite}
use Rattle.binary32.specs.Sqrt.{units_of, reaches, climb, rooted}
use Rattle.elimination.specs.Tables.{table, concatenated, every}
use Rattle.elimination.specs.Solve.{largest, swapped, gained, cleared, eliminated, column_steps, elimination_steps, right_sides, carried, answered, carry_steps, answer_steps, solve_steps, answers_of}
use Rattle.sheet.specs.declared.Position.{Position}
use Rattle.binary32.specs.Numbers.{nought, one}
use Rattle.homography.specs.Normalize.{mean, mean_steps, distance, distance_steps, scale_of, scale_steps, normalization_of, row_steps, forward, forward_steps, map_row, map_steps, moved, normalized, normal_steps, two}
use Rattle.homography.specs.Equations.{equation, equations, equation_steps}
use Rattle.homography.specs.Undo.{backward, multiplied, multiplied_steps, undone, undo_steps}
use Rattle.homography.specs.Fit.{quotients, unscaled, fit_steps, homography_of}

abbrev pub three : Float
three = fin false 3 (pos 0)

abbrev pub at : Float → Float → Position
at x y = record { x = x; y = y }

abbrev pub cells : List Position
cells = at nought nought ∷ at one nought ∷ at nought one ∷ at one one ∷ []

abbrev pub corners : List Position
corners = at one one ∷ at three one ∷ at one three ∷ at three three ∷ []

pub fits : homography_of cells corners ≡ Some (two ∷ nought ∷ one ∷ nought ∷ two ∷ one ∷ nought ∷ nought ∷ one ∷ [])
unfolding homography_of fit_steps unscaled quotients undo_steps undone multiplied_steps multiplied backward equation_steps equations equation normal_steps normalized moved map_steps map_row forward_steps forward row_steps normalization_of scale_steps scale_of distance_steps distance mean_steps mean answers_of solve_steps answer_steps carry_steps answered carried right_sides elimination_steps column_steps eliminated cleared gained swapped largest table concatenated every all_finite is_finite rooted climb reaches units_of to_bits of_bits add sub mul div neg lt eq
fits = refl

-- four corners in one place: the mean distance is 0, the scale 1, and a pivot is zero
abbrev pub together : List Position
together = at one one ∷ at one one ∷ at one one ∷ at one one ∷ []

pub none : homography_of cells together ≡ None
unfolding homography_of fit_steps unscaled quotients undo_steps undone multiplied_steps multiplied backward equation_steps equations equation normal_steps normalized moved map_steps map_row forward_steps forward row_steps normalization_of scale_steps scale_of distance_steps distance mean_steps mean answers_of solve_steps answer_steps carry_steps answered carried right_sides elimination_steps column_steps eliminated cleared gained swapped largest table concatenated every all_finite is_finite rooted climb reaches units_of to_bits of_bits add sub mul div neg lt eq
none = refl
