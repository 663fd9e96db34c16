-- Places of the sheet that hold nothing: no corner and no mark, so that their word is 0; and the others, which are walked over. Definitions only.
use Rattle.std.specs.Prelude.{◌≡◌, Bool, true, ◌&&◌, cond, List, [], ◌∷◌, ℕ, zero, suc, ◌+◌, ◌-◌, ◌%◌, ◌≤◌, ◌<◌, eqb, get_or, Option, Some, None}
use Rattle.sheet.specs.declared.walk.Written.{Written}

-- the n places from one on hold nothing
unfoldable pub all_blank : List ℕ → ℕ → ℕ → Bool
all_blank sheet at zero = true
all_blank sheet at (suc n) = all_blank sheet at n && eqb (get_or sheet (at + n) 0) 0

-- n places from one on, at most a number of them, hold nothing, and where they are fewer the next one holds something
pub record BlankRun (sheet : List ℕ) (at most n : ℕ) : Type 0 where
  pub upto : n ≤ most
  pub blank : all_blank sheet at n ≡ true
  pub stops : n < most → get_or sheet (at + n) 0 ≡ 0 → ⊥

-- n places from one on, all of its row of 128 places, hold nothing; there are some where the place itself holds nothing
pub record BlankPlaces (sheet : List ℕ) (at n : ℕ) : Type 0 where
  pub upto : n ≤ 128 - at % 128
  pub blank : all_blank sheet at n ≡ true
  pub some : get_or sheet at 0 ≡ 0 → 0 < n

-- the places from one on and before another hold nothing
pub record Passed (sheet : List ℕ) (from r : ℕ) : Type 0 where
  pub start : from ≤ r
  pub upto : r ≤ 16384
  pub blank : (p : ℕ) → from ≤ p → p < r → get_or sheet p 0 ≡ 0

-- the next place from one on that holds something, or 16,384
pub record NextWritten (sheet : List ℕ) (from r : ℕ) : Type 0 where
  pub passed : Passed sheet from r
  pub written : r < 16384 → get_or sheet r 0 ≡ 0 → ⊥

-- the next place of the sheet from one on that holds something, if there is one
abbrev pub IsNextWritten : List ℕ → ℕ → Option ℕ → Type 0
IsNextWritten sheet from (Some r) = NextWritten sheet from r × (r < 16384)
IsNextWritten sheet from None = NextWritten sheet from 16384

-- of n places from one on those that hold something, each with its word, rising
unfoldable pub written_in : List ℕ → ℕ → ℕ → List (ℕ × ℕ)
written_in sheet from zero = []
written_in sheet from (suc n) =
    cond (eqb (get_or sheet from 0) 0) (written_in sheet (suc from) n) ((from, get_or sheet from 0) ∷ written_in sheet (suc from) n)

-- of all places from one on
abbrev pub written_from : List ℕ → ℕ → List (ℕ × ℕ)
written_from sheet from = written_in sheet from (16384 - from)

-- what a walk has still before it
unfoldable pub written_rest : Written → List (ℕ × ℕ)
written_rest w = written_from w.sheet.now w.from
