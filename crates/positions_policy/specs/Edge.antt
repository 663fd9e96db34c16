-- Document 01, "Edge": the length that an edge should have, the band that its length must lie in, and what the edges from a cell
-- to its four cardinal neighbours say of a candidate. Each rounded operation is named. Definitions only.
-- The labels are seen as a function from cells: the corner at a cell, or nothing where none is labelled.
use Rattle.std.specs.Prelude.{◌≡◌, Bool, true, false, ◌&&◌, cond, ℕ, pos, negsuc, get_or, Float, Option, Some, None}
use mathlib.Core.List.{List, [], ◌∷◌, Memᴰ}
use Rattle.std.specs.Float.{binary32}
use Rattle.std.specs.Float.Ieee.{of_bits, add, sub, mul, div, lt, le}
use Rattle.binary32.specs.Sqrt.{sqrt_or_nan}
use Rattle.sheet.specs.Cells.{moved}
use Rattle.sheet.specs.declared.Cell.{Cell}
use Rattle.sheet.specs.declared.Offset.{Offset}
use Rattle.sheet.specs.declared.Position.{Position}
use Rattle.sheet.specs.declared.Corner.{Corner}
use Rattle.binary32.specs.Numbers.{half, one}
use Rattle.sheet.specs.Corners.{squared_distance}
use Rattle.positions_policy.specs.declared.Tolerances.{Tolerances}
use Rattle.positions_policy.specs.declared.EdgeVerdict.{EdgeVerdict}
use Rattle.positions_policy.specs.declared.EdgeVerdict.TheVariants.{Accepted, Refused, NonePresent}

-- ---- one edge: its length, the expected length, the band

-- The length, its rounded root.
unfoldable pub length_of : Position → Position → Float
length_of to from = sqrt_or_nan (squared_distance to from)

-- 0.001 in binary32
abbrev pub least_pitch : Float
least_pitch = of_bits binary32 0x3a83_126f

-- Half the sum of both pitches, the candidate's first.
unfoldable pub mean_pitch : Float → Float → Float
mean_pitch candidate neighbour = mul binary32 half (add binary32 candidate neighbour)

-- "Expected length is half the sum of both pitches if above 0.001 (binary32), else the cell size."
unfoldable pub expected_length : Float → Float → Float → Float
expected_length cellSize candidate neighbour = cond (lt least_pitch (mean_pitch candidate neighbour)) (mean_pitch candidate neighbour) cellSize

-- "Length/expected must lie in 1−band to 1+band, ends included."
unfoldable pub in_band : Float → Float → Float → Bool
in_band length expected band = le (sub binary32 one band) (div binary32 length expected) && le (div binary32 length expected) (add binary32 one band)

-- An edge is accepted if its length lies in the band about the expected length.
unfoldable pub edge_ok : Corner → Corner → Float → Float → Bool
edge_ok candidate neighbour cellSize band =
    in_band (length_of candidate.position neighbour.position) (expected_length cellSize candidate.pitch neighbour.pitch) band

-- ---- the four cardinal neighbours

-- "in the order +i, −i, +j, −j"
unfoldable pub cardinal_offsets : List Offset
cardinal_offsets =
    record { di = pos 1; dj = pos 0 }
    ∷ record { di = negsuc 0; dj = pos 0 }
    ∷ record { di = pos 0; dj = pos 1 }
    ∷ record { di = pos 0; dj = negsuc 0 }
    ∷ []

-- the k-th of them, from 0 on
abbrev pub cardinal_at : ℕ → Offset
cardinal_at k = get_or cardinal_offsets k (record { di = pos 0; dj = pos 0 })

-- ---- the verdict

-- What the edge to one neighbour says: accepted or refused, or that there is none.
unfoldable pub edge_to : Tolerances → Corner → Option Corner → EdgeVerdict
edge_to tol candidate None = NonePresent
edge_to tol candidate (Some neighbour) = cond (edge_ok candidate neighbour tol.cell_size tol.edge_length_tol) Accepted Refused

-- An edge, and what those tried after it say: the search stops at an accepted edge, after a refused one it is refused unless a
-- later one is accepted, and where there is no neighbour the later ones decide.
unfoldable pub followed_by : EdgeVerdict → EdgeVerdict → EdgeVerdict
followed_by Accepted later = Accepted
followed_by Refused Accepted = Accepted
followed_by Refused Refused = Refused
followed_by Refused NonePresent = Refused
followed_by NonePresent later = later

-- The edges at some offsets, tried in order.
unfoldable pub tried : (Offset → EdgeVerdict) → List Offset → EdgeVerdict
tried edge [] = NonePresent
tried edge (o ∷ os) = followed_by (edge o) (tried edge os)

-- The edge to the neighbour at an offset from a cell.
abbrev pub edge_at : (Cell → Option Corner) → Tolerances → Cell → Corner → Offset → EdgeVerdict
edge_at seen tol c candidate o = edge_to tol candidate (seen (moved c o))

-- "Cardinal neighbours are tried in the order +i, −i, +j, −j, and the search stops at the first accepted edge."
unfoldable pub verdict_of : (Cell → Option Corner) → Tolerances → Cell → Corner → EdgeVerdict
verdict_of seen tol c candidate = tried (edge_at seen tol c candidate) cardinal_offsets

-- An accepted edge passes. "A cell with no cardinal neighbour passes."
unfoldable pub passes : EdgeVerdict → Bool
passes Accepted = true
passes Refused = false
passes NonePresent = true

-- ---- what a verdict means, without the search

-- A labelled cardinal neighbour whose edge to the candidate is accepted.
pub record AcceptedEdge (seen : Cell → Option Corner) (tol : Tolerances) (c : Cell) (candidate : Corner) : Type 0 where
  pub offset : Offset
  pub cardinal : Memᴰ offset cardinal_offsets
  pub neighbour : Corner
  pub labelled : seen (moved c offset) ≡ Some neighbour
  pub accepted : edge_ok candidate neighbour tol.cell_size tol.edge_length_tol ≡ true

-- No cardinal neighbour is labelled.
abbrev pub NoNeighbour : (Cell → Option Corner) → Cell → Type 0
NoNeighbour seen c = (o : Offset) → Memᴰ o cardinal_offsets → seen (moved c o) ≡ None
