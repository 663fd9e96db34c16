-- Which corners are on the sheet, the array that says so, and that no corner is at two cells. Definitions only.
use Rattle.std.specs.Prelude.{◌≡◌, Bool, true, false, cond, List, ℕ, ◌<◌, eqb, ltb, length, get_or, set, Option, Some, None}
use Rattle.sizes.specs.Sizes.{place_count, corner_limit}
use Rattle.sheet.specs.Words.{label_of}
use Rattle.labels.specs.Labelled.{any_below}

-- a label that names the corner k
unfoldable pub names : ℕ → Option ℕ → Bool
names k None = false
names k (Some j) = eqb j k

-- the corner k is used: some place of the sheet holds it
unfoldable pub used_on : List ℕ → ℕ → Bool
used_on sheet k = any_below place_count (λ p. names k (label_of (get_or sheet p 0)))

-- the rule: a place of the sheet that holds the corner k
pub record UsedAt (sheet : List ℕ) (k : ℕ) : Type 0 where
  pub place : ℕ
  pub below : place < place_count
  pub holds : label_of (get_or sheet place 0) ≡ Some k

-- an array that is tied to the sheet: entry k says whether the corner k is used
pub record Tied (sheet : List ℕ) (used : List Bool) : Type 0 where
  pub size : length used ≡ corner_limit
  pub at : (k : ℕ) → k < corner_limit → get_or used k false ≡ used_on sheet k

-- an array with the corner of a label marked; a corner of 1,024 or more has no entry
unfoldable pub noted : List Bool → Option ℕ → List Bool
noted used None = used
noted used (Some k) = cond (ltb k corner_limit) (set used k true) used

-- one cell a corner: two places of the sheet never hold the same corner
pub record OneCell (sheet : List ℕ) : Type 0 where
  pub one_place :
      (p q k : ℕ) → p < place_count → q < place_count → label_of (get_or sheet p 0) ≡ Some k → label_of (get_or sheet q 0) ≡ Some k → p ≡ q
