-- What a library call leaves behind: a refusal, which changes nothing, or an answer with the sheet, the attached list and the visited cells.
-- Lists of cells are lists of places. Definitions only.
use Rattle.std.specs.Prelude.{List, ℕ, Result}
use Rattle.refusal.specs.declared.Refusal.{Refusal}

-- what an accepted call answers and leaves: the sheet, its new cells in order, and for grow the visited cells in order
pub record After (A : Type 0) : Type 0 where
  pub answer : A
  pub sheet : List ℕ
  pub attached : List ℕ
  pub visited : List ℕ

-- what a call answers: a refusal, or what its pass says
abbrev pub Answer : Type 0 → Type 0
Answer A = Result A Refusal

pub data Outcome (A : Type 0) : Type 0 where
  refused : Refusal → Outcome A
  done : After A → Outcome A
