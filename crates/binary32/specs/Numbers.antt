-- The numbers 0, one half and 1 in binary32, by their bits. Definitions only.
use Rattle.std.specs.Prelude.{Float}
use Rattle.std.specs.Float.{binary32}
use Rattle.std.specs.Float.Ieee.{of_bits}

abbrev pub nought : Float
nought = of_bits binary32 0

abbrev pub half : Float
half = of_bits binary32 0x3f00_0000

abbrev pub one : Float
one = of_bits binary32 0x3f80_0000
