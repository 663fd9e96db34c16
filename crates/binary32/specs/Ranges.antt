-- The ranges of document 01, "Frame and result", by value: -0 counts as 0, and what is not finite lies in none. Definitions only.
use Rattle.std.specs.Prelude.{Bool, true, false, ◌&&◌, List, [], ◌∷◌, ℕ, pos, negsuc, neg_ℤ, Float}
use Rattle.std.specs.Float.{fin, binary32}
use Rattle.std.specs.Float.Ieee.{of_int, le}
use Rattle.std.specs.Float.Ieee.Scale.{finite}
use Rattle.binary32.specs.declared.ranges.Ends.{Ends}
use Rattle.binary32.specs.declared.ranges.Quantity.{Quantity}
use Rattle.binary32.specs.declared.ranges.Quantity.TheVariants.{Position, Pitch, CellSize, AxisPart, Band, Multiple, Factor}

-- neither a NaN nor an infinity, and the same of each value of a list
unfoldable pub is_finite : Float → Bool
is_finite x = finite x

unfoldable pub all_finite : List Float → Bool
all_finite [] = true
all_finite (x ∷ xs) = is_finite x && all_finite xs

-- the range from 0 to n, and that from -n to n
abbrev pub up_to : ℕ → Ends
up_to n = record { low = of_int binary32 (pos 0); high = of_int binary32 (pos n) }

abbrev pub either_way : ℕ → Ends
either_way n = record { low = of_int binary32 (neg_ℤ (pos n)); high = of_int binary32 (pos n) }

-- Position ±16,384; pitch 0 to 16,384; cell 2^−10 to 16,384; axis parts ±4; band 0 to 4;
-- search, boundary and residual 0 to 16; factor 0 to 1,000.
unfoldable pub ends_of : Quantity → Ends
ends_of Position = either_way 16384
ends_of Pitch = up_to 16384
ends_of CellSize = record { low = fin false 1 (negsuc 9); high = of_int binary32 (pos 16384) }
ends_of AxisPart = either_way 4
ends_of Band = up_to 4
ends_of Multiple = up_to 16
ends_of Factor = up_to 1000

-- x lies in a range, ends included: `le` compares values, so -0 is 0
abbrev pub between : Ends → Float → Bool
between e x = le e.low x && le x e.high

abbrev pub in_range : Quantity → Float → Bool
in_range q x = between (ends_of q) x
