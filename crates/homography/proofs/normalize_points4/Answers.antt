-- `homography::normalize_points4` meets its contract. Assumes nothing.
use mathlib.Core.Path.{◌≡◌}
use lib.Ieee.{nan}
use Rattle.std.proofs.Common.{rules}
use Rattle.sheet.specs.Corners.{squared_distance}
use Rattle.sheet.specs.declared.Position.{Position}
use Rattle.elimination.specs.Tables.{table}
use Rattle.elimination.proofs.Made.{mapped}
use Rattle.homography.specs.Normalize.{point, distance, moved}
use Rattle.homography.proofs.Normalizing.{normalized_ok, normalized_err}
use Rattle.homography.proofs.normalize_points4.Goals as goal
use Rattle.homography.proofs.normalize_points4.Goals.{After-steps_finite}

abbrev nowhere : Position
nowhere = record { x = nan; y = nan }

xs : (c : After-steps_finite) → c.map.result ≡ table 4 (λ i. (point c.args.pts i).x)
xs c = mapped _ _ (λ (p : Position). p.x) c.args.pts c.map.result nowhere nan (λ x y q k. search rules) 4 c.map.ensures.items

ys : (c : After-steps_finite) → c.map-2.result ≡ table 4 (λ i. (point c.args.pts i).y)
ys c = mapped _ _ (λ (p : Position). p.y) c.args.pts c.map-2.result nowhere nan (λ x y q k. search rules) 4 c.map-2.ensures.items

distances : (c : After-steps_finite) → c.map-3.result ≡ table 4 (λ i. distance c.mean4-cx.result c.mean4-cy.result (point c.args.pts i))
unfolding distance squared_distance
distances c = mapped _ _ (λ (p : Position). distance c.mean4-cx.result c.mean4-cy.result p) c.args.pts c.map-3.result nowhere nan (λ x y q k. search rules) 4 c.map-3.ensures.items

points : (c : After-steps_finite) → c.map-points.result ≡ table 4 (λ i. moved c.forward-t.result (point c.args.pts i))
points c = mapped _ _ (λ (p : Position). moved c.forward-t.result p) c.args.pts c.map-points.result nowhere nowhere (λ x y q k. search rules) 4 c.map-points.ensures.items

pub returns-then-steps_finite : goal.returns-then-steps_finite
returns-then-steps_finite c =
    let s = (goal.at.returns-then-steps_finite c).After-steps_finite in
    normalized_ok _ (xs s) c.mean4-cx.ensures (ys s) c.mean4-cy.ensures (distances s) c.mean4-mean_dist.ensures c.hartley_scale-scale.ensures c.forward-t.ensures (points s) c.steps_finite.ensures c.if-steps_finite.true

pub returns-else-steps_finite : goal.returns-else-steps_finite
returns-else-steps_finite c =
    let s = (goal.at.returns-else-steps_finite c).After-steps_finite in
    normalized_err _ (xs s) c.mean4-cx.ensures (ys s) c.mean4-cy.ensures (distances s) c.mean4-mean_dist.ensures c.hartley_scale-scale.ensures c.forward-t.ensures (points s) c.steps_finite.ensures c.if-steps_finite.false
