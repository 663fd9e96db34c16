-- A computed example, the whole test of an edge. 01's marked cases are computed in the crate `worked_examples`. Assumes nothing.
use mathlib.Core.Path.{◌≡◌, refl}
use mathlib.Core.Bool.{true, false}
use lib.Ieee.{Float, binary32, of_bits, to_bits, add, sub, mul, div, neg, lt, le, eq}
use Rattle.binary32.specs.Sqrt.{units_of, reaches, climb, rooted}
use Rattle.sheet.specs.declared.Corner.{Corner}
use Rattle.sheet.specs.Corners.{squared_distance}
use Rattle.positions_policy.specs.Edge.{length_of, mean_pitch, expected_length, in_band, edge_ok}

-- 0, 0.25, 7, 7.5 and 10 by their bits
abbrev nought : Float
nought = of_bits binary32 0

abbrev quarter : Float
quarter = of_bits binary32 0x3e80_0000

abbrev seven : Float
seven = of_bits binary32 0x40e0_0000

abbrev seven_and_half : Float
seven_and_half = of_bits binary32 0x40f0_0000

abbrev ten : Float
ten = of_bits binary32 0x4120_0000

-- a corner of pitch 10
abbrev corner_at : Float → Float → Corner
corner_at x y = record { position = record { x = x; y = y }; pitch = ten }

-- The whole test of an edge, root included, with both pitches 10 and band 0.25: corners 7.5 apart are accepted, and 7 apart refused.
pub computed :
    (edge_ok (corner_at ten seven_and_half) (corner_at ten nought) ten quarter ≡ true)
    × (edge_ok (corner_at ten seven) (corner_at ten nought) ten quarter ≡ false)
unfolding edge_ok length_of squared_distance rooted climb reaches units_of in_band expected_length mean_pitch of_bits to_bits add sub mul div neg lt le eq
computed = (refl, refl)
