-- `supports::local_fit` meets its contract: from the four points and their pictured corners. Assumes nothing.
use Rattle.std.proofs.Common.{rules, ◌<◌}
use lib.Ieee.{nan}
use Rattle.sheet.specs.Cells.{cell_of}
use Rattle.sheet.specs.Seeing.{seen_in}
use Rattle.sheet.specs.declared.Position.{Position}
use Rattle.elimination.proofs.Made.{mapped}
use Rattle.passes.specs.Local.{cell_point, pictured_at}
use Rattle.supports.specs.declared.Support.{Support}
use Rattle.supports.proofs.Fitted.{fit_is, served}
use Rattle.supports.proofs.local_fit.Goals as goal

abbrev on_sheet : Support → Type 0
on_sheet k = k.place < 16384

abbrev nowhere : Position
nowhere = record { x = nan; y = nan }

abbrev none : Support
none = record { place = 0; reach = 0 }

pub map-cells-requires : goal.map-cells-requires
map-cells-requires c = (search rules, (search rules, (search rules, served on_sheet c.args.s c.requires.below (λ x q e. search rules) (λ x h. search rules))))

pub map-corners-requires : goal.map-corners-requires
map-corners-requires c = (search rules, (search rules, (search rules, served on_sheet c.args.s c.requires.below (λ x q e. search rules) (λ x h. search rules))))

pub returns : goal.returns
returns c =
    fit_is _ c.args.s c.requires.size
    (mapped _ _ (λ (k : Support). cell_point (cell_of k.place)) c.args.s c.map-cells.result none nowhere (λ x y q k. search rules) 4 c.map-cells.ensures.items)
    (mapped _ _ (λ (k : Support). pictured_at (seen_in c.args.seeing) k.place) c.args.s c.map-corners.result none nowhere (λ x y q k. search rules) 4 c.map-corners.ensures.items)
    c.fit_points.ensures
