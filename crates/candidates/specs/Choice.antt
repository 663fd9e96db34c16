-- Document 01, "Candidates and choice": the two rules by which a corner is chosen of the candidates. Definitions only.
use Rattle.std.specs.Prelude.{◌≡◌, cond, ℕ, Result, Ok, Err, Float}
use Rattle.std.specs.Float.{binary32}
use Rattle.std.specs.Float.Ieee.{div, lt, le, of_bits}
use Rattle.candidates.specs.declared.Candidate.{Candidate}
use Rattle.candidates.specs.declared.Candidates.{Candidates}
use Rattle.candidates.specs.declared.Candidates.TheVariants.{Empty, One, Several}
use Rattle.candidates.specs.declared.Unchosen.{Unchosen}
use Rattle.candidates.specs.declared.Unchosen.TheVariants.{Nothing, Ambiguous}

-- the choice at a cell: a corner's number, or why none is chosen
abbrev pub CandidateChoice : Type 0
CandidateChoice = Result ℕ Unchosen

-- 2^−23, which is f32::EPSILON
abbrev pub epsilon : Float
epsilon = of_bits binary32 0x3400_0000

-- the quotient: ambiguous if second/first is below the factor, else the first
abbrev pub by_quotient : ℕ → Float → Float → Float → CandidateChoice
by_quotient number first second factor = cond (lt (div binary32 second first) factor) (Err Ambiguous) (Ok number)

-- Of two or more, grow: first distance at most 2^−23 is ambiguous; else ambiguous if second/first is below the factor.
unfoldable pub choose_unambiguous : Candidates → Float → CandidateChoice
choose_unambiguous Empty factor = Err Nothing
choose_unambiguous (One a) factor = Ok a.number
choose_unambiguous (Several a second) factor = cond (le a.distance epsilon) (Err Ambiguous) (by_quotient a.number a.distance second factor)

-- a distance raised to at least 2^−23
abbrev pub raised : Float → Float
raised d = cond (le epsilon d) d epsilon

-- Of two or more, fill and local: the first distance is raised to at least 2^−23, then the same quotient.
unfoldable pub choose_with_floor : Candidates → Float → CandidateChoice
choose_with_floor Empty factor = Err Nothing
choose_with_floor (One a) factor = Ok a.number
choose_with_floor (Several a second) factor = by_quotient a.number (raised a.distance) second factor

-- what is chosen where a rule P decides between the first of two or more and the distance of the second
abbrev pub ChosenBy : (Candidate → Float → CandidateChoice → Type 0) → Candidates → CandidateChoice → Type 0
ChosenBy P Empty r = r ≡ Err Nothing
ChosenBy P (One a) r = r ≡ Ok a.number
ChosenBy P (Several a second) r = P a second r

-- a choice among corners that got other numbers
abbrev pub renumbered : (ℕ → ℕ) → CandidateChoice → CandidateChoice
renumbered to (Err e) = Err e
renumbered to (Ok k) = Ok (to k)
