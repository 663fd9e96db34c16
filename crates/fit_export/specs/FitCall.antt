-- The fit over lent buffers: four cells and four pictured corners by their x and their y, and a buffer of which a fit takes the first
-- nine places. Definitions only.
use Rattle.std.specs.Prelude.{Bool, cond, ◌||◌, List, ◌++◌, ℕ, ltb, length, get_or, drop, Some, None, Float}
use Rattle.std.specs.Float.{nan}
use Rattle.elimination.specs.Tables.{table}
use Rattle.sheet.specs.declared.Position.{Position}
use Rattle.homography.specs.Fit.{Answer, homography_of}

-- what a call answers, and the whole out buffer after it
pub record Left : Type 0 where
  pub answer : ℕ
  pub out : List Float

abbrev pub left : ℕ → List Float → Left
left answer out = record { answer = answer; out = out }

-- the first four points of a list of x and a list of y
unfoldable pub points_of : List Float → List Float → List Position
points_of xs ys = table 4 (λ i. record { x = get_or xs i nan; y = get_or ys i nan })

-- of four lists of x or of y with these lengths one has fewer than four, or there are fewer than nine places for the entries
unfoldable pub too_short : ℕ → ℕ → ℕ → ℕ → ℕ → Bool
too_short a b c d places = ltb a 4 || (ltb b 4 || (ltb c 4 || (ltb d 4 || ltb places 9)))

-- the nine entries at the front of the buffer, the rest untouched
unfoldable pub entered : List Float → List Float → List Float
entered h out = h ++ drop 9 out

-- 1 and the entries where there is a fit; 0 and the buffer as it was where there is none
unfoldable pub fit_leaves : Answer → List Float → Left
fit_leaves None out = left 0 out
fit_leaves (Some h) out = left 1 (entered h out)

-- the fit of 01 on the points, unless a list is too short: that is answered as no fit
unfoldable pub exported : List Float → List Float → List Float → List Float → List Float → Left
exported cx cy px py out =
    cond (too_short (length cx) (length cy) (length px) (length py) (length out)) (left 0 out)
    (fit_leaves (homography_of (points_of cx cy) (points_of px py)) out)
