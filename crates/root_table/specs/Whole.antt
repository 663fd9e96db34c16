-- The whole part of a root, as a relation and as a test. Definitions only.
use Rattle.std.specs.Prelude.{Bool, ◌&&◌, ℕ, ◌+◌, ◌*◌, ◌≤◌, ◌<◌, leb, ltb}

-- s is the whole part of the root of n: the squares of s and of s + 1 enclose n
pub record WholePart (n s : ℕ) : Type 0 where
  pub from : s * s ≤ n
  pub to : n < (s + 1) * (s + 1)

-- the same as a test
unfoldable pub is_whole_part : ℕ → ℕ → Bool
is_whole_part n s = leb (s * s) n && ltb n ((s + 1) * (s + 1))
