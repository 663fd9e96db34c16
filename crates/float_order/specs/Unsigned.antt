-- Words for the laws on floats: a value with no sign, one that is not zero, and a value without its sign. Definitions only.
use Rattle.std.specs.Prelude.{Bool, true, false, not, zero, suc, Float}
use Rattle.std.specs.Float.{nan, inf, fin}

-- x is no nan and has no minus sign: +0, a positive number, or the positive infinity
abbrev pub plain : Float → Bool
plain nan = false
plain (inf s) = not s
plain (fin s m e) = not s

-- x is neither of the two zeros
abbrev pub nonzero : Float → Bool
nonzero nan = true
nonzero (inf s) = true
nonzero (fin s zero e) = false
nonzero (fin s (suc m) e) = true

-- x without its sign
abbrev pub unsigned : Float → Float
unsigned nan = nan
unsigned (inf s) = inf false
unsigned (fin s m e) = fin false m e
