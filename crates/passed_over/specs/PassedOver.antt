-- Document 02, 1/14: the corners that gathering passes over for their kind, and how many they are. Definitions only.
use Rattle.std.specs.Prelude.{Bool, not, ◌&&◌, cond, ℕ, Float}
use Rattle.sheet.specs.Corners.{finite_position}
use Rattle.sheet.specs.declared.Position.{Position}
use Rattle.labels.specs.Count.{how_many}
use Rattle.candidates.specs.Candidates.{squared_radius}
use Rattle.candidates.specs.Steps.{is_near}

-- "each unlabelled corner within the radius so passed over, with no shade or the other kind"; the limit is the squared radius
unfoldable pub is_passed_over : (ℕ → Position) → (ℕ → Bool) → (ℕ → Bool) → Position → Float → ℕ → Bool
is_passed_over position unlabelled taken prediction limit k = unlabelled k && (not (taken k) && is_near position prediction limit k)

-- how many of n corners; a prediction that is not finite gathers none, and passes over none
unfoldable pub passed_over : (ℕ → Position) → (ℕ → Bool) → (ℕ → Bool) → ℕ → Position → Float → ℕ
passed_over position unlabelled taken n prediction radius =
    cond (finite_position prediction) (how_many (is_passed_over position unlabelled taken prediction (squared_radius radius)) n) 0
