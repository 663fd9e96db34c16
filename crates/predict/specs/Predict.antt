-- "Step, neighbour, prediction": the neighbours of a cell in their order, the step at a neighbour, the running weighted sums,
-- the prediction, and whether it is an extrapolation. All of it is a function of `seen`, what is seen at each cell; every
-- operation on floats is one of binary32 and stands in the order in which it is rounded. Definitions only.
use Rattle.sheet.specs.declared.Corner.{Corner}
use Rattle.std.specs.Prelude.{Bool, true, false, not, ◌&&◌, ◌||◌, List, [], ◌∷◌, ℤ, pos, negsuc, Option, Some, None, Float}
use Rattle.std.specs.Int.Signed.{lt_z}
use Rattle.std.specs.Float.{binary32}
use Rattle.std.specs.Float.Ieee.{of_int, add, sub, mul, div}
use Rattle.sheet.specs.Cells.{moved, difference_of}
use Rattle.sheet.specs.declared.Cell.{Cell}
use Rattle.sheet.specs.declared.Offset.{Offset}
use Rattle.sheet.specs.declared.Position.{Position}
use Rattle.binary32.specs.Numbers.{nought, half, one}
use Rattle.predict.specs.declared.Neighbour.{Neighbour}
use Rattle.predict.specs.declared.Direction.{Direction}
use Rattle.predict.specs.declared.LocalStep.{LocalStep}
use Rattle.predict.specs.declared.Vector.{Vector}
use Rattle.predict.specs.declared.Grid.{Grid}
use Rattle.predict.specs.declared.Sums.{Sums}
use Rattle.predict.specs.declared.Side.{Side}

-- ---- neighbours

abbrev pub offset : ℤ → ℤ → Offset
offset di dj = record { di = di; dj = dj }

-- -1, which is `negsuc 0`
abbrev pub minus_one : ℤ
minus_one = negsuc 0

-- the cells of the 3 by 3 square, j outer and i inner, both rising, centre left out
unfoldable pub neighbour_offsets : List Offset
neighbour_offsets =
    offset minus_one minus_one ∷ offset (pos 0) minus_one ∷ offset (pos 1) minus_one
    ∷ offset minus_one (pos 0) ∷ offset (pos 1) (pos 0)
    ∷ offset minus_one (pos 1) ∷ offset (pos 0) (pos 1) ∷ offset (pos 1) (pos 1) ∷ []

-- a cell at which a corner is seen is put before the neighbours that follow it
unfoldable pub put_before : Cell → Option Corner → List Neighbour → List Neighbour
put_before at None rest = rest
put_before at (Some corner) rest = record { at = at; position = corner.position } ∷ rest

-- the labelled cells at some offsets, in the offsets' order
unfoldable pub labelled_among : (Cell → Option Corner) → Cell → List Offset → List Neighbour
labelled_among seen c [] = []
labelled_among seen c (o ∷ os) = put_before (moved c o) (seen (moved c o)) (labelled_among seen c os)

-- "Neighbours are the labelled cells of the 3 by 3 square"
unfoldable pub neighbours_of : (Cell → Option Corner) → Cell → List Neighbour
neighbours_of seen c = labelled_among seen c neighbour_offsets

-- ---- step

-- the cells on both sides of a cell, along i or j
abbrev pub forward_of : Direction → Offset
forward_of Direction.I = offset (pos 1) (pos 0)
forward_of Direction.J = offset (pos 0) (pos 1)

abbrev pub backward_of : Direction → Offset
backward_of Direction.I = offset minus_one (pos 0)
backward_of Direction.J = offset (pos 0) minus_one

-- the difference of two positions, and half of it
abbrev pub one_sided : Position → Position → LocalStep
one_sided f b = LocalStep.Own (sub binary32 f.x b.x) (sub binary32 f.y b.y)

abbrev pub both_sided : Position → Position → LocalStep
both_sided f b = LocalStep.Own (mul binary32 (sub binary32 f.x b.x) half) (mul binary32 (sub binary32 f.y b.y) half)

-- a step by what is seen forward and backward: half the difference of both sides' positions, or the one-sided difference, or
-- else the axis
abbrev pub step_between : Position → Option Corner → Option Corner → LocalStep
step_between here (Some f) (Some b) = both_sided f.position b.position
step_between here (Some f) None = one_sided f.position here
step_between here None (Some b) = one_sided here b.position
step_between here None None = LocalStep.Axis

-- the step at a neighbour along i or j
unfoldable pub step_at : (Cell → Option Corner) → Neighbour → Direction → LocalStep
step_at seen n d = step_between n.position (seen (moved n.at (forward_of d))) (seen (moved n.at (backward_of d)))

-- a step as a vector: its own pair, or axis times cell size
abbrev pub vector_of : Vector → Float → LocalStep → Vector
vector_of axis size (LocalStep.Own x y) = record { x = x; y = y }
vector_of axis size LocalStep.Axis = record { x = mul binary32 axis.x size; y = mul binary32 axis.y size }

-- the axis of i, or of j
abbrev pub axis_of : Grid → Direction → Vector
axis_of grid Direction.I = grid.axis_i
axis_of grid Direction.J = grid.axis_j

unfoldable pub step_vector : (Cell → Option Corner) → Grid → Neighbour → Direction → Vector
step_vector seen grid n d = vector_of (axis_of grid d) grid.cell_size (step_at seen n d)

-- ---- prediction

-- "Weight is 1/(di²+dj²)". The centre is left out, so di and dj are not both 0
abbrev pub weight_of : Float → Float → Float
weight_of di dj = div binary32 one (add binary32 (mul binary32 di di) (mul binary32 dj dj))

-- what both steps make of di and dj
abbrev pub across : Float → Float → Float → Float → Float
across iStep di jStep dj = add binary32 (mul binary32 iStep di) (mul binary32 jStep dj)

-- the sums with one neighbour more, each operation rounded as written; di and dj lead from the neighbour to the cell
unfoldable pub weighed : Sums → Offset → Position → Vector → Vector → Sums
weighed s o p iStep jStep =
    let di = of_int binary32 o.di in
    let dj = of_int binary32 o.dj in
    let w = weight_of di dj in
    record {
      x = add binary32 s.x (mul binary32 w (add binary32 p.x (across iStep.x di jStep.x dj)));
      y = add binary32 s.y (mul binary32 w (add binary32 p.y (across iStep.y di jStep.y dj)));
      w = add binary32 s.w w;
    }

-- a neighbour's part in the sums for a cell
unfoldable pub with_neighbour : (Cell → Option Corner) → Grid → Cell → Sums → Neighbour → Sums
with_neighbour seen grid c s n = weighed s (difference_of c n.at) n.position (step_vector seen grid n Direction.I) (step_vector seen grid n Direction.J)

-- "The sums run in neighbour order"
unfoldable pub sums_from : (Cell → Option Corner) → Grid → Cell → Sums → List Neighbour → Sums
sums_from seen grid c s [] = s
sums_from seen grid c s (n ∷ ns) = sums_from seen grid c (with_neighbour seen grid c s n) ns

unfoldable pub no_sums : Sums
no_sums = record { x = nought; y = nought; w = nought }

unfoldable pub sums_of : (Cell → Option Corner) → Grid → Cell → Sums
sums_of seen grid c = sums_from seen grid c no_sums (neighbours_of seen c)

-- the weighted sums by the sum of the weights
unfoldable pub mean_of : Sums → Position
mean_of s = record { x = div binary32 s.x s.w; y = div binary32 s.y s.w }

-- no neighbour, or the mean over all of them
unfoldable pub prediction_from : List Neighbour → Sums → Option Position
prediction_from [] s = None
prediction_from (n ∷ ns) s = Some (mean_of s)

unfoldable pub prediction_of : (Cell → Option Corner) → Grid → Cell → Option Position
prediction_of seen grid c = prediction_from (neighbours_of seen c) (sums_of seen grid c)

-- ---- extrapolating

-- on the side -i lie the cells with a smaller i, on the side +i those with a larger one; likewise for j
unfoldable pub on_side : Side → Cell → Cell → Bool
on_side Side.MinusI c at = lt_z at.i c.i
on_side Side.PlusI c at = lt_z c.i at.i
on_side Side.MinusJ c at = lt_z at.j c.j
on_side Side.PlusJ c at = lt_z c.j at.j
on_side Side.Any c at = true

-- one of the neighbours lies on a side
unfoldable pub any_on : Side → Cell → List Neighbour → Bool
any_on side c [] = false
any_on side c (n ∷ ns) = on_side side c n.at || any_on side c ns

unfoldable pub has_neighbour : (Cell → Option Corner) → Cell → Side → Bool
has_neighbour seen c side = any_on side c (neighbours_of seen c)

-- "not all of the sides -i, +i, -j, +j have a neighbour"
unfoldable pub extrapolating : (Cell → Option Corner) → Cell → Bool
extrapolating seen c =
    not (has_neighbour seen c Side.MinusI && has_neighbour seen c Side.PlusI && has_neighbour seen c Side.MinusJ && has_neighbour seen c Side.PlusJ)

-- ---- the square a cell at a time, as the loops go through it

-- whether a corner is seen
unfoldable pub is_seen : Option Corner → Bool
is_seen None = false
is_seen (Some corner) = true

-- a labelled cell that lies on a side
abbrev pub labelled_on : (Cell → Option Corner) → Cell → Side → Cell → Bool
labelled_on seen c side at = is_seen (seen at) && on_side side c at

-- the sums with the part of a cell at which this is seen, and with the part of a cell
unfoldable pub with_seen : (Cell → Option Corner) → Grid → Cell → Sums → Cell → Option Corner → Sums
with_seen seen grid c s at None = s
with_seen seen grid c s at (Some corner) = with_neighbour seen grid c s (record { at = at; position = corner.position })

abbrev pub with_cell : (Cell → Option Corner) → Grid → Cell → Sums → Cell → Sums
with_cell seen grid c s at = with_seen seen grid c s at (seen at)
