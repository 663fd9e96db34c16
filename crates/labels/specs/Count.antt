-- How many numbers below a number pass a test. Definitions only.
use Rattle.std.specs.Prelude.{Bool, ℕ, length}
use Rattle.labels.specs.Labelled.{passing}

abbrev pub how_many : (ℕ → Bool) → ℕ → ℕ
how_many test n = length (passing test n)
