-- How many lines a result has, and how long they are (document 01, "Frame and result"); src/line_sizes.rt has the same for the code. Definitions only.
use Rattle.std.specs.Prelude.{ℕ}

-- lines of a result behind its pass lines: one for each role (document 02, 7/14)
abbrev pub role_line_count : ℕ
role_line_count = 3

-- and behind these: of cells, of holes and of ambiguous cells
abbrev pub sheet_lines : ℕ
sheet_lines = 49152

-- which of them is the first of an ambiguous cell: that of a hole is line `place_count`
abbrev pub first_ambiguous : ℕ
first_ambiguous = 32768

-- bytes that are left before a line of a piece is written: more than any line has
abbrev pub line_room : ℕ
line_room = 128

-- a sum of counts of 32 bits over as many passes as can be lent is not above 2^96
abbrev pub largest_sum : ℕ
largest_sum = 79228162514264337593543950336
