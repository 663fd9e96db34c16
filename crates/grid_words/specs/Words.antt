-- What is answered in another language: 0 where a call is done, else the number of its refusal. Definitions only.
use Rattle.std.specs.Prelude.{ℕ, Result, Ok, Err}
use Rattle.refusal.specs.Refusal.{number_of}
use Rattle.refusal.specs.declared.Refusal.{Refusal}

abbrev pub answered : Result (Unit {0}) Refusal → ℕ
answered (Ok u) = 0
answered (Err r) = number_of r
