-- What the exported root answers, as one number. Definitions only.
use Rattle.std.specs.Prelude.{ℕ, ◌*◌, ◌^◌, Float, Result, Ok, Err}
use Rattle.std.specs.Float.{binary32}
use Rattle.std.specs.Float.Ieee.{to_bits}
use Rattle.refusal.specs.Refusal.{number_of}
use Rattle.refusal.specs.declared.Refusal.{Refusal}

-- a root is its bits, which are below 2 ^ 32; a refusal is its number times 2 ^ 32
abbrev pub root_word : Result Float Refusal → ℕ
root_word (Ok r) = to_bits binary32 r
root_word (Err n) = 2 ^ 32 * number_of n
