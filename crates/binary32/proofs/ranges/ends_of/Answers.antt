-- `ranges::ends_of` meets its contract: each arm is given which quantity it is, and a float literal computes to the number it writes. Assumes nothing.
use mathlib.Core.Path.{sym, ap}
use lib.Ieee.{of_bits, neg, of_int}
use Rattle.binary32.specs.Ranges.{ends_of}
use Rattle.binary32.proofs.ranges.ends_of.Goals as goal

pub returns-in-Position : goal.returns-in-Position
unfolding ends_of of_bits neg of_int
returns-in-Position c = sym (ap ends_of c.in-Position.is)

pub returns-in-Pitch : goal.returns-in-Pitch
unfolding ends_of of_bits neg of_int
returns-in-Pitch c = sym (ap ends_of c.in-Pitch.is)

pub returns-in-CellSize : goal.returns-in-CellSize
unfolding ends_of of_bits neg of_int
returns-in-CellSize c = sym (ap ends_of c.in-CellSize.is)

pub returns-in-AxisPart : goal.returns-in-AxisPart
unfolding ends_of of_bits neg of_int
returns-in-AxisPart c = sym (ap ends_of c.in-AxisPart.is)

pub returns-in-Band : goal.returns-in-Band
unfolding ends_of of_bits neg of_int
returns-in-Band c = sym (ap ends_of c.in-Band.is)

pub returns-in-Multiple : goal.returns-in-Multiple
unfolding ends_of of_bits neg of_int
returns-in-Multiple c = sym (ap ends_of c.in-Multiple.is)

pub returns-in-Factor : goal.returns-in-Factor
unfolding ends_of of_bits neg of_int
returns-in-Factor c = sym (ap ends_of c.in-Factor.is)
