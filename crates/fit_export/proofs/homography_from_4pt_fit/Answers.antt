-- `fit_export::homography_from_4pt_fit` meets its contract: too short, no fit, a fit. Assumes nothing.
use native.Mathlib.Omega.{arith}
use Rattle.fit_export.proofs.Leaving.{long_enough, leaves_short, leaves_none, leaves_fit}
use Rattle.fit_export.proofs.homography_from_4pt_fit.Goals as goal

pub returns-then-too_short : goal.returns-then-too_short
returns-then-too_short c =
    let a = c.args in
    leaves_short a.cells_x.now a.cells_y.now a.corners_x.now a.corners_y.now a.out.now c.too_short.ensures c.if-too_short.true

pub points_of-cells-requires : goal.points_of-cells-requires
points_of-cells-requires c = let l = long_enough _ _ _ _ _ c.too_short.ensures c.if-too_short.false in (omega arith, omega arith)

pub points_of-corners-requires : goal.points_of-corners-requires
points_of-corners-requires c = let l = long_enough _ _ _ _ _ c.too_short.ensures c.if-too_short.false in (omega arith, omega arith)

pub returns-in_default : goal.returns-in_default
returns-in_default c =
    let a = c.args in
    leaves_none a.cells_x.now a.cells_y.now a.corners_x.now a.corners_y.now a.out.now c.too_short.ensures c.if-too_short.false
    c.points_of-cells.ensures c.points_of-corners.ensures
    c.homography_from_4pt.ensures c.in_default.is

pub enter-requires : goal.enter-requires
enter-requires c =
    (long_enough _ _ _ _ _ c.too_short.ensures c.if-too_short.false).room

pub returns : goal.returns
returns c =
    let a = c.args in
    leaves_fit a.cells_x.now a.cells_y.now a.corners_x.now a.corners_y.now a.out.now c.too_short.ensures c.if-too_short.false
    c.points_of-cells.ensures c.points_of-corners.ensures
    c.homography_from_4pt.ensures c.in-Some.is c.enter.ensures
