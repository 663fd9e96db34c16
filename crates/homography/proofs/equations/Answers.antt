-- `homography::equations` meets its contract: the equations in their order. Assumes nothing.
use mathlib.Core.List.{[]}
use Prim.Native.Nat.{ℕ, ◌/◌}
use Rattle.std.proofs.Common.{rules}
use Rattle.homography.specs.Normalize.{point}
use Rattle.homography.specs.Equations.{equation, equations}
use Rattle.elimination.proofs.Made.{counted}
use Rattle.homography.proofs.equations.Goals as goal

pub returns : goal.returns
unfolding equations
returns c =
    counted _ _ (λ (i : ℕ). equation i (point c.args.cells (i / 2)) (point c.args.corners (i / 2))) c.from_fn.result [] 8 c.from_fn.ensures.items (λ j y q l k. search rules)
