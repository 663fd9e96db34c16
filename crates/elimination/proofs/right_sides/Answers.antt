-- `elimination::right_sides` meets its contract: the entry of each row. Assumes nothing.
use mathlib.Core.List.{[]}
use lib.Ieee.{nan}
use lib.ListN.{get_or}
use Rattle.std.proofs.Common.{rules}
use Rattle.elimination.specs.Solve.{right_sides, Row}
use Rattle.elimination.proofs.Made.{mapped}
use Rattle.elimination.proofs.right_sides.Goals as goal

pub returns : goal.returns
unfolding right_sides
returns c = mapped _ _ (λ (r : Row). get_or r 8 nan) c.args.m.now c.map.result [] nan (λ x y q k. search rules) 8 c.map.ensures.items
