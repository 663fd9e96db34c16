-- The cells of the sheet: which there are, the place of each in the sheet's list, a cell moved, the difference of two cells
-- and its magnitude. Definitions only.
use Rattle.std.specs.Prelude.{Bool, false, ◌&&◌, ◌||◌, ℕ, ◌+◌, ◌*◌, ◌/◌, ◌%◌, ◌≤◌, ℤ, pos, negsuc, ◌+ℤ◌, ◌-ℤ◌, nat_abs, T, eqb}
use Rattle.std.specs.Int.Signed.{le_z, lt_z}
use Rattle.sheet.specs.declared.Cell.{Cell}
use Rattle.sheet.specs.declared.Offset.{Offset}

-- from -64, which is `negsuc 63`, to 63
abbrev pub in_range : ℤ → Bool
in_range z = le_z (negsuc 63) z && le_z z (pos 63)

-- "Cells have i and j from -64 to 63"
unfoldable pub on_sheet : Cell → Bool
on_sheet c = in_range c.i && in_range c.j

abbrev pub OnSheet : Cell → Type 0
OnSheet c = T (on_sheet c)

-- a coordinate as a number from 0 to 127
abbrev pub line_of : ℤ → ℕ
line_of z = nat_abs (z +ℤ pos 64)

-- the place of a cell: (i + 64) * 128 + (j + 64)
unfoldable pub place_of : Cell → ℕ
place_of c = line_of c.i * 128 + line_of c.j

-- the cell of a place
unfoldable pub cell_of : ℕ → Cell
cell_of p = record { i = pos (p / 128) -ℤ pos 64; j = pos (p % 128) -ℤ pos 64 }

-- the cell at an offset from a cell
abbrev pub moved : Cell → Offset → Cell
moved c o = record { i = c.i +ℤ o.di; j = c.j +ℤ o.dj }

-- the offset at which the first cell lies from the second
abbrev pub difference_of : Cell → Cell → Offset
difference_of a b = record { di = a.i -ℤ b.i; dj = a.j -ℤ b.j }

-- |di| + |dj|
abbrev pub magnitude_of : Offset → ℕ
magnitude_of o = nat_abs o.di + nat_abs o.dj

-- equal numbers
abbrev pub eq_z : ℤ → ℤ → Bool
eq_z (pos a) (pos b) = eqb a b
eq_z (pos a) (negsuc b) = false
eq_z (negsuc a) (pos b) = false
eq_z (negsuc a) (negsuc b) = eqb a b

-- by i, then j: i is less, or equal and j is less
abbrev pub earlier : Cell → Cell → Bool
earlier c d = lt_z c.i d.i || (eq_z c.i d.i && lt_z c.j d.j)

-- an offset of at most n in each direction
pub record Within (n : ℕ) (o : Offset) : Type 0 where
  pub di_small : nat_abs o.di ≤ n
  pub dj_small : nat_abs o.dj ≤ n

-- a cell with i and j from -200 to 200
pub record NearSheet (c : Cell) : Type 0 where
  pub i_near : nat_abs c.i ≤ 200
  pub j_near : nat_abs c.j ≤ 200
