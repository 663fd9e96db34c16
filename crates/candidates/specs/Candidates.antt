-- Document 01, "Candidates and choice", with document 02, 1/14: which corners are candidates at a prediction, and in which order they stand.
-- Corners are seen as functions of their number: where each lies, and whether it may be a candidate at all. Definitions only.
use Rattle.std.specs.Prelude.{Bool, true, false, not, ◌&&◌, ◌||◌, cond, List, [], ◌∷◌, ℕ, zero, suc, ltb, get_or, Float}
use Rattle.std.specs.Float.{binary32}
use Rattle.std.specs.Float.Ieee.{mul, lt, le, of_bits}
use Rattle.binary32.specs.Sqrt.{sqrt_or_nan}
use Rattle.sheet.specs.declared.held.CornerArrays.{CornerArrays}
use Rattle.sheet.specs.declared.Position.{Position}
use Rattle.sheet.specs.Shades.{takes_kind, shades_in}
use Rattle.sheet.specs.Corners.{corner_in, squared_distance, finite_position}
use Rattle.candidates.specs.declared.Candidate.{Candidate}
use Rattle.candidates.specs.declared.Candidates.{Candidates}
use Rattle.candidates.specs.declared.Candidates.TheVariants.{Empty, One, Several}

-- ---- the corners as the passes hold them: where corner k lies, and that it is unlabelled if it is not marked

abbrev pub positions_in : CornerArrays → ℕ → Position
positions_in held k = (corner_in held k).position

abbrev pub unmarked : List Bool → ℕ → Bool
unmarked used k = not (get_or used k false)

-- ---- a candidate

-- Which corners may be candidates at all: the unlabelled ones that the cell takes.
unfoldable pub eligible : (ℕ → Bool) → (ℕ → Bool) → ℕ → Bool
eligible unlabelled taken k = unlabelled k && taken k

-- the same of the corners as the passes hold them, for a cell of a kind
abbrev pub eligible_in : CornerArrays → List Bool → ℕ → ℕ → Bool
eligible_in held used kind = eligible (unmarked used) (takes_kind (shades_in held) kind)

abbrev pub squared_radius : Float → Float
squared_radius radius = mul binary32 radius radius

-- A candidate is an eligible corner whose squared distance is at most the squared radius.
abbrev pub is_candidate : (ℕ → Position) → (ℕ → Bool) → Position → Float → ℕ → Bool
is_candidate position may prediction radius k = may k && le (squared_distance (position k) prediction) (squared_radius radius)

-- ---- the order: by distance, then corner number

-- The distance is the rounded root of the squared distance. So corners with different squares and equal roots tie, and go by number.
abbrev pub distance_of : (ℕ → Position) → Position → ℕ → Float
distance_of position prediction k = sqrt_or_nan (squared_distance (position k) prediction)

-- a stands before b: it is nearer, or as near and of the smaller number
abbrev pub before : Candidate → Candidate → Bool
before a b = lt a.distance b.distance || (not (lt b.distance a.distance) && ltb a.number b.number)

-- into a list that is in order, before the first that it stands before
unfoldable pub insert : Candidate → List Candidate → List Candidate
insert c [] = c ∷ []
insert c (b ∷ l) = cond (before c b) (c ∷ b ∷ l) (b ∷ insert c l)

abbrev pub insert_if : Bool → Candidate → List Candidate → List Candidate
insert_if true c l = insert c l
insert_if false c l = l

-- the candidates among the first n corners, in order, each with its distance
unfoldable pub ordered : (ℕ → Float) → (ℕ → Bool) → ℕ → List Candidate
ordered distance candidate zero = []
ordered distance candidate (suc k) = insert_if (candidate k) (record { number = k; distance = distance k }) (ordered distance candidate k)

-- ---- the candidates at a prediction

-- All candidates of n corners, in order. A non-finite prediction has none.
unfoldable pub candidates_at : (ℕ → Position) → (ℕ → Bool) → ℕ → Position → Float → List Candidate
candidates_at position may n prediction radius =
    cond (finite_position prediction) (ordered (distance_of position prediction) (is_candidate position may prediction radius) n) []

-- what a choice needs of them: the first, and whether there is a second and how far it is
unfoldable pub first_two : List Candidate → Candidates
first_two [] = Empty
first_two (a ∷ []) = One a
first_two (a ∷ (b ∷ l)) = Several a b.distance

-- the distance of the last of these: the second's, or that of the only one; where there is none, zero
unfoldable pub last_distance : Candidates → Float
last_distance Empty = of_bits binary32 0
last_distance (One a) = a.distance
last_distance (Several a second) = second
