-- `LentCorners::hold` meets its contract: the xs, the ys, the pitches and the shades are copied to their places. Assumes nothing.
use Rattle.std.specs.Prelude.{Option, is_some}
use mathlib.Core.List.{List}
use Prim.Native.Nat.{ℕ}
use Rattle.sheet.specs.Shades.{shade_held}
use mathlib.Core.Path.{sym, ◌∙◌, ap}
use Rattle.arguments.proofs.Holding.{corners_held}
use Rattle.arguments.proofs.HoldingShades.{shades_some, shades_none}
use Rattle.arguments.proofs.LentCorners.hold.Goals as goal

pub returns-then-any_shade : goal.returns-then-any_shade
returns-then-any_shade c =
    corners_held c.requires c.copy_from_slice.ensures.after c.copy_from_slice-2.ensures.after c.copy_from_slice-3.ensures.after _ _
    (sym c.if-any_shade.true ∙ c.any_shade.ensures)
    (shades_some _ _ c.requires.all.shades_long c.copy_from_slice-then-any_shade.ensures.after)

pub returns-else-any_shade : goal.returns-else-any_shade
returns-else-any_shade c =
    corners_held c.requires c.copy_from_slice.ensures.after c.copy_from_slice-2.ensures.after c.copy_from_slice-3.ensures.after _ _
    (ap is_some c.requires.no_shades ∙ sym c.if-any_shade.false ∙ c.any_shade.ensures)
    (λ m. ap (λ (b : Option (List ℕ)). shade_held b m) c.requires.no_shades ∙ shades_none _ _ (sym c.any_shade.ensures ∙ c.if-any_shade.false) m)
