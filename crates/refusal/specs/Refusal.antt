-- The number of each refusal, as document 01's table has it, and document 02, 3/14: "8 if no corner is in both sets, 9 if no shift gives every shared
-- corner one cell and every cell one corner", and 6/14: "10, not yours". Definitions only.
use Rattle.std.specs.Prelude.{ℕ}
use Rattle.refusal.specs.declared.Refusal.{Refusal}
use Rattle.refusal.specs.declared.Refusal.TheVariants.{Malformed, OverLimit, OutOfRange, OffSheet, UnknownCorner, Duplicate, BufferTooShort, NoSharedCorner, PatchesClash, NotPermitted}

abbrev pub number_of : Refusal → ℕ
number_of Malformed = 1
number_of OverLimit = 2
number_of OutOfRange = 3
number_of OffSheet = 4
number_of UnknownCorner = 5
number_of Duplicate = 6
number_of BufferTooShort = 7
number_of NoSharedCorner = 8
number_of PatchesClash = 9
number_of NotPermitted = 10
