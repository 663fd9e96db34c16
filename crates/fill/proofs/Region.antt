-- The region of a round: all of it lies in the window. Assumes nothing.
use Rattle.labels.specs.declared.Bounds.{Bounds}
use Rattle.std.specs.Prelude.{Option, Some, None}
use mathlib.Core.Path.{◌≡◌, refl}
use mathlib.Core.Bool.{Bool, true, false, ◌&&◌, ◌||◌}
use Prim.Native.Nat.{ℕ, ◌<◌}
use native.Mathlib.Omega.{arith}
use Rattle.sheet.specs.Cells.{cell_of}
use Rattle.labels.proofs.Below.{both}
use Rattle.passes.specs.Fill.{near_i, near_j, box_and_strips}
use Rattle.region.specs.Windowed.{InWindow, Windowed}
use Rattle.region.specs.declared.Window.{Window}

-- a place outside of the window is not in the region
pub in_window : (around : Option Bounds) (w : Window) (p : ℕ) → Windowed 1 around w → p < 16384 → (InWindow w p → ⊥) → box_and_strips around (cell_of p) ≡ false
in_window None w p c h out = refl
in_window (Some b) w p c h out = go (near_i 0 b (cell_of p) && near_j 1 b (cell_of p)) refl (near_i 1 b (cell_of p) && near_j 0 b (cell_of p)) refl
  where
    go : (t : Bool) → (near_i 0 b (cell_of p) && near_j 1 b (cell_of p)) ≡ t → (u : Bool) → (near_i 1 b (cell_of p) && near_j 0 b (cell_of p)) ≡ u → (t || u) ≡ false
    go true e u f = let k = both (near_i 0 b (cell_of p)) (near_j 1 b (cell_of p)) e in absurd (out (c.covers b refl 0 1 p (omega arith) (omega arith) h k.0 k.1))
    go false e true f = let k = both (near_i 1 b (cell_of p)) (near_j 0 b (cell_of p)) f in absurd (out (c.covers b refl 1 0 p (omega arith) (omega arith) h k.0 k.1))
    go false e false f = refl
