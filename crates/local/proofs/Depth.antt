-- The depth: 0 acts as 1. Assumes nothing.
use Prim.Native.Nat.{◌≤◌}
use native.Mathlib.Omega.{arith}
use Rattle.arguments.specs.declared.LocalExtensionParams.{LocalExtensionParams}
use Rattle.passes.specs.Local.{depth_of}

module _ (p : LocalExtensionParams) where
  -- of an accepted call it is small
  pub depth_in : p.extend_depth ≤ 4 → depth_of p ≤ 64
  unfolding depth_of
  depth_in h = omega arith
