-- The ordered candidates once more, as a relation that is read beside document 01: the list holds exactly the candidates, each once,
-- sorted by distance, then corner number. `proofs/Listing.antt` shows that the list of `specs/Candidates.antt` is such a one. Definitions only.
use Rattle.std.specs.Prelude.{◌≡◌, Bool, true, ℕ, ◌<◌, Float}
use mathlib.Core.List.{List, [], ◌∷◌, Memᴰ}
use Rattle.candidates.specs.declared.Candidate.{Candidate}
use Rattle.candidates.specs.Candidates.{before}

-- c is a candidate among the first n corners, with its own distance
pub record IsOne (distance : ℕ → Float) (candidate : ℕ → Bool) (n : ℕ) (c : Candidate) : Type 0 where
  pub there : c.number < n
  pub is_candidate_holds : candidate c.number ≡ true
  pub at_distance : c.distance ≡ distance c.number

-- no number stands twice
abbrev pub Once : List Candidate → Type 0
Once [] = Unit {0}
Once (a ∷ l) = ((b : Candidate) → Memᴰ b l → a.number ≡ b.number → ⊥) × Once l

-- the list holds all candidates and nothing else, each once
pub record Exactly (distance : ℕ → Float) (candidate : ℕ → Bool) (n : ℕ) (l : List Candidate) : Type 0 where
  pub all : (k : ℕ) → k < n → candidate k ≡ true → Memᴰ (record { number = k; distance = distance k }) l
  pub only : (c : Candidate) → Memᴰ c l → IsOne distance candidate n c
  pub once : Once l

-- each stands before all that follow: nearer, or as near and of the smaller number
abbrev pub Sorted : List Candidate → Type 0
Sorted [] = Unit {0}
Sorted (a ∷ l) = ((b : Candidate) → Memᴰ b l → before a b ≡ true) × Sorted l
