-- `region::window_of` meets its contract: by the box, whose ends' places give the lines. Assumes nothing.
use mathlib.Core.Path.{◌≡◌}
use mir.Syntax.{w32}
use mir.Val.{SFits}
use mir.Facts.{to_z-of_z}
use Rattle.sheet.specs.Cells.{place_of}
use Rattle.region.specs.Windowed.{BoundsOn}
use Rattle.region.proofs.Jumps.{window_around}
use borrow.Author.Rules.{rules}
use Rattle.region.proofs.window_of.Goals as goal
use Rattle.region.proofs.window_of.Goals.{After-place_of-high}

-- the place of the high end
high_is : (c : After-place_of-high) → c.place_of-high.result ≡ place_of (record { i = c.in-Some.b.high_i; j = c.in-Some.b.high_j })
high_is c =
    let f : SFits w32 c.in-Some.b.high_i = search rules in
    let g : SFits w32 c.in-Some.b.high_j = search rules in
    rw (to_z-of_z f, to_z-of_z g) at c.place_of-high.ensures

bounds : (c : After-place_of-high) → BoundsOn c.in-Some.b
bounds c = c.requires.bounds_on _ c.in-Some.is

pub returns : goal.returns
returns c =
    let f : SFits w32 c.in-Some.b.low_i = search rules in
    let g : SFits w32 c.in-Some.b.low_j = search rules in
    window_around _ _ _ _ _ _ c.in-Some.is (bounds (goal.at.returns c).After-place_of-high) (rw (to_z-of_z f, to_z-of_z g) at c.place_of-low.ensures) (high_is (goal.at.returns c).After-place_of-high) c.saturating_sub.ensures c.min.ensures c.saturating_sub-2.ensures c.min-2.ensures
