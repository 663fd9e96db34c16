-- The examples that document 01 marks M, as a table. `proofs/Examples.antt` proves `Right table`. Definitions only.
-- Numbers are given by their binary32 bits.
use Rattle.std.specs.Prelude.{ℕ, ◌+◌, ◌≡◌, Bool, true, false, List, [], ◌∷◌, length, pos, Float, Ok, Err}
use Rattle.std.specs.Float.{binary32}
use Rattle.std.specs.Float.Ieee.{of_bits}
use Rattle.sheet.specs.Words.{attached, empty_sheet}
use Rattle.sheet.specs.declared.Cell.{Cell}
use Rattle.passes.specs.Fill.{fill_cells}
use Rattle.passes.specs.Local.{local_cells}
use Rattle.binary32.specs.Sqrt.{Answers, rooted}
use Rattle.candidates.specs.Choice.{CandidateChoice, choose_unambiguous, choose_with_floor}
use Rattle.candidates.specs.declared.Candidates.{Candidates}
use Rattle.candidates.specs.declared.Unchosen.{Unchosen}
use Rattle.positions_policy.specs.Edge.{in_band, expected_length}

abbrev pub f32 : ℕ → Float
f32 bits = of_bits binary32 bits

-- two candidates at these distances, the nearer one being corner 7
abbrev pub two_at : ℕ → ℕ → Candidates
two_at first second = Candidates.Several (record { number = 7; distance = f32 first }) (f32 second)

-- what is chosen: the nearer one, or neither
pub data Chosen : Type 0 where
  taken ambiguous : Chosen

abbrev pub choice_of : Chosen → CandidateChoice
choice_of taken = Ok 7
choice_of ambiguous = Err Unchosen.Ambiguous

-- one example: what is given, and what 01 says of it
pub data Example : Type 0 where
  -- the root of the float with the first bits has the second bits
  root : ℕ → ℕ → Example
  -- two candidates, by their distances and the factor: grow's choice; fill's and local's choice
  grows fills : ℕ → ℕ → ℕ → Chosen → Example
  -- an edge of a length passes, or not, with an expected length and a band
  edge : ℕ → ℕ → ℕ → Bool → Example
  -- with these pitches the expected length of an edge is the cell size, whatever that is
  expected_is_size : ℕ → ℕ → Example
  -- the cells that are labelled: how many cells the first round of fill walks, or that of local with a depth
  fill_walks : List Cell → ℕ → Example
  local_walks : ℕ → List Cell → ℕ → Example

-- a sheet with the corners k, k + 1 and so on attached to some cells, in order
unfoldable pub with_labels : List ℕ → ℕ → List Cell → List ℕ
with_labels sheet k [] = sheet
with_labels sheet k (c ∷ cs) = with_labels (attached sheet c k) (k + 1) cs

-- the sheet on which these cells are labelled and no other
abbrev pub labelled : List Cell → List ℕ
labelled cells = with_labels empty_sheet 0 cells

-- what an example claims, of the definitions that the contracts cite
abbrev pub Claims : Example → Type 0
Claims (root x r) = Answers (f32 x) (Ok (f32 r)) × (rooted (f32 x) ≡ Ok (f32 r))
Claims (grows first second factor c) = choose_unambiguous (two_at first second) (f32 factor) ≡ choice_of c
Claims (fills first second factor c) = choose_with_floor (two_at first second) (f32 factor) ≡ choice_of c
Claims (edge edgeLength expectation band b) = in_band (f32 edgeLength) (f32 expectation) (f32 band) ≡ b
Claims (expected_is_size candidate neighbour) = (size : Float) → expected_length size (f32 candidate) (f32 neighbour) ≡ size
Claims (fill_walks cells n) = length (fill_cells (labelled cells)) ≡ n
Claims (local_walks depth cells n) = length (local_cells depth (labelled cells)) ≡ n

-- every row of a table holds
abbrev pub Right : List Example → Type 0
Right [] = Unit {0}
Right (row ∷ rest) = Claims row × Right rest

-- a cell, by an i and a j that are not negative
abbrev pub at : ℕ → ℕ → Cell
at i j = record { i = pos i; j = pos j }

abbrev pub table : List Example
table =
    -- M1: roots of 40800000, 40000000, 00000001: 40000000, 3fb504f3, 1a3504f3
    root 0x4080_0000 0x4000_0000
    ∷ root 0x4000_0000 0x3fb5_04f3
    ∷ root 0x0000_0001 0x1a35_04f3
    -- M2: distances 2 and 3, factor 1.5: taken, by either rule
    ∷ grows 0x4000_0000 0x4040_0000 0x3fc0_0000 taken
    ∷ fills 0x4000_0000 0x4040_0000 0x3fc0_0000 taken
    -- M3: 2 and 2.75: ambiguous
    ∷ grows 0x4000_0000 0x4030_0000 0x3fc0_0000 ambiguous
    ∷ fills 0x4000_0000 0x4030_0000 0x3fc0_0000 ambiguous
    -- M4: 0 and 5: grow ambiguous, fill takes
    ∷ grows 0x0000_0000 0x40a0_0000 0x3fc0_0000 ambiguous
    ∷ fills 0x0000_0000 0x40a0_0000 0x3fc0_0000 taken
    -- M5: expected 10, band 0.25: lengths 7.5 and 12.5 pass
    ∷ edge 0x40f0_0000 0x4120_0000 0x3e80_0000 true
    ∷ edge 0x4148_0000 0x4120_0000 0x3e80_0000 true
    -- M6: 7 fails
    ∷ edge 0x40e0_0000 0x4120_0000 0x3e80_0000 false
    -- M7: both pitches 0.001: cell size used
    ∷ expected_is_size 0x3a83_126f 0x3a83_126f
    -- M8: labels (0,0), (2,0): fill walks 9 cells
    ∷ fill_walks (at 0 0 ∷ at 2 0 ∷ []) 9
    -- M9: local depth 1 would walk 11
    ∷ local_walks 1 (at 0 0 ∷ at 2 0 ∷ []) 11
    ∷ []
