-- What the answer of the root says, in document 01's number and value ("Number": "It takes any non-negative finite float; either zero gives itself;
-- any other gets number 3"). Definitions only.
use Rattle.std.specs.Prelude.{Bool, true, false, cond, [], ◌∷◌, zero, suc, Float, Result, Ok, Err}
use Rattle.std.specs.Float.{nan, inf, fin}
use Rattle.refusal.specs.Refusal.{number_of}
use Rattle.refusal.specs.declared.Refusal.{Refusal}
use Rattle.refusal.specs.Said.{float, Said, number, values}
use Rattle.binary32.specs.Sqrt.{sqrt_or_nan}

-- the answer by its cases
unfoldable pub root_said : Result Float Refusal → Said
root_said (Err r) = number (number_of r)
root_said (Ok x) = values (float x ∷ [])

-- a non-negative finite float; both zeros are
unfoldable pub takes_root : Float → Bool
takes_root nan = false
takes_root (inf s) = false
takes_root (fin s zero e) = true
takes_root (fin true (suc m) e) = false
takes_root (fin false (suc m) e) = true

-- what an answer is due to say: the root of such a float, number 3 of any other
unfoldable pub root_due : Float → Said
root_due x = cond (takes_root x) (values (float (sqrt_or_nan x) ∷ [])) (number 3)
