-- The rounded operations of binary32 by their signs, and the magnitude. Definitions only.
use Rattle.std.specs.Prelude.{cond, Float}
use Rattle.std.specs.Float.{binary32}
use Rattle.std.specs.Float.Ieee.{add, sub, mul, div, neg, lt}
use Rattle.binary32.specs.Numbers.{nought}

infixl 68 ◌⊕◌ ◌⊖◌
infixl 70 ◌⊗◌ ◌⊘◌
abbrev pub ◌⊕◌ : Float → Float → Float
◌⊕◌ x y = add binary32 x y

abbrev pub ◌⊖◌ : Float → Float → Float
◌⊖◌ x y = sub binary32 x y

abbrev pub ◌⊗◌ : Float → Float → Float
◌⊗◌ x y = mul binary32 x y

abbrev pub ◌⊘◌ : Float → Float → Float
◌⊘◌ x y = div binary32 x y

-- what is below zero is negated
abbrev pub magnitude : Float → Float
magnitude x = cond (lt x nought) (neg x) x
