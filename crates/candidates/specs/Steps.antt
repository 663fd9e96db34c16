-- What the steps of the candidate scan ask and hand on, for their own contracts. Definitions only.
use Rattle.std.specs.Prelude.{◌≡◌, Bool, true, false, ◌&&◌, cond, ℕ, zero, suc, ◌+◌, ◌≤◌, ◌<◌, Option, Some, None, Float}
use Rattle.std.specs.Float.Ieee.{lt, le}
use Rattle.sheet.specs.declared.held.CornerArrays.{CornerArrays}
use Rattle.sheet.specs.declared.Position.{Position}
use Rattle.sheet.specs.Corners.{squared_distance}
use Rattle.candidates.specs.declared.Candidate.{Candidate}
use Rattle.candidates.specs.declared.Candidates.{Candidates}
use Rattle.candidates.specs.declared.Candidates.TheVariants.{Empty, One, Several}
use Rattle.candidates.specs.declared.Found.{Found}
use Rattle.candidates.specs.declared.Measured.{Measured}
use Rattle.candidates.specs.Candidates.{positions_in, is_candidate, distance_of, ordered, first_two}

-- one more candidate, whose number is above all others': nearer than the first, or than the second, or neither
abbrev pub kept : Candidates → Candidate → Candidates
kept Empty c = One c
kept (One a) c = cond (lt c.distance a.distance) (Several c a.distance) (Several a c.distance)
kept (Several a second) c =
    cond (lt c.distance a.distance) (Several c a.distance)
    (cond (lt c.distance second) (Several a c.distance) (Several a second))

-- whether a measured candidate is nearer than another
abbrev pub is_nearer : Measured → Measured → Bool
is_nearer c a = lt c.candidate.distance a.candidate.distance

-- `kept` of candidates that have their squared distances beside them
abbrev pub narrowed : Found → Measured → Found
narrowed Found.Empty c = Found.One c
narrowed (Found.One a) c = cond (is_nearer c a) (Found.Several c a) (Found.Several a c)
narrowed (Found.Several a b) c = cond (is_nearer c a) (Found.Several c a) (cond (is_nearer c b) (Found.Several a c) (Found.Several a b))

-- the squared distance that a further one may not exceed: the squared radius, and that of the second once there are two
abbrev pub limit_of : Float → Found → Float
limit_of radius Found.Empty = radius
limit_of radius (Found.One a) = radius
limit_of radius (Found.Several a b) = b.square

-- what a choice needs of what was found
abbrev pub candidates_in : Found → Candidates
candidates_in Found.Empty = Empty
candidates_in (Found.One a) = One a.candidate
candidates_in (Found.Several a b) = Several a.candidate b.candidate.distance

-- a corner whose squared distance is at most the limit
abbrev pub is_near : (ℕ → Position) → Position → Float → ℕ → Bool
is_near position prediction limit k = le (squared_distance (position k) prediction) limit

-- an eligible one: a candidate, if the limit is the squared radius
abbrev pub is_within : (ℕ → Position) → (ℕ → Bool) → Position → Float → ℕ → Bool
is_within position may prediction limit k = may k && is_near position prediction limit k

-- 1 where a test is passed, and else 0
abbrev pub one_if : (ℕ → Bool) → ℕ → ℕ
one_if test k = cond (test k) 1 0

-- how many of n numbers from one on pass a test
unfoldable pub count_from : (ℕ → Bool) → ℕ → ℕ → ℕ
count_from test from zero = 0
count_from test from (suc k) = count_from test from k + one_if test (from + k)

-- the first two of the candidates among the first n corners, the prediction being finite
abbrev pub first_two_below : CornerArrays → (ℕ → Bool) → ℕ → Position → Float → Candidates
first_two_below held may n prediction radius =
    first_two (ordered (distance_of (positions_in held) prediction) (is_candidate (positions_in held) may prediction radius) n)

-- the next candidate of n corners from one on, or n if there is none
pub record Next (candidate : ℕ → Bool) (n from r : ℕ) : Type 0 where
  pub on : from ≤ r
  pub within : r ≤ n
  pub passed : (k : ℕ) → from ≤ k → k < r → candidate k ≡ false
  pub hit : r < n → candidate r ≡ true

-- the same, where it is said by what is found
abbrev pub IsNext : (ℕ → Bool) → ℕ → ℕ → Option ℕ → Type 0
IsNext candidate n from (Some r) = Next candidate n from r × (r < n)
IsNext candidate n from None = Next candidate n from n

-- a corner with its distance, and the squared distance
abbrev pub measured : (ℕ → Position) → Position → ℕ → Measured
measured position prediction k = record {
  candidate = record { number = k; distance = distance_of position prediction k };
  square = squared_distance (position k) prediction;
}
