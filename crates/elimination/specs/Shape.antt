-- The shape of eight equations: what the type [[f32; 9]; 8] says, and a list of lists alone does not. Definitions only.
use Rattle.std.specs.Prelude.{◌≡◌, ℕ, ◌<◌, length}
use Rattle.elimination.specs.Solve.{Matrix, row}

-- eight rows of nine
pub record EightByNine (m : Matrix) : Type 0 where
  pub rows : length m ≡ 8
  pub columns : (i : ℕ) → i < 8 → length (row m i) ≡ 9
