-- `fit_export::points_of` meets its contract: the points in their order. Assumes nothing.
use Prim.Native.Nat.{ℕ}
use mathlib.Core.List.{List, []}
use lib.Ieee.{Float, nan}
use lib.ListN.{get_or}
use Rattle.std.proofs.Common.{rules}
use Rattle.elimination.proofs.Made.{counted}
use Rattle.sheet.specs.declared.Position.{Position}
use Rattle.fit_export.specs.FitCall.{points_of}
use Rattle.fit_export.proofs.points_of.Goals as goal

-- the point of each index
abbrev at : List Float → List Float → ℕ → Position
at xs ys i = record { x = get_or xs i nan; y = get_or ys i nan }

pub returns : goal.returns
unfolding points_of
returns c = counted _ _ (at c.args.xs.now c.args.ys.now) c.from_fn.result (at [] [] 0) 4 c.from_fn.ensures.items (λ j y q l k. search rules)
