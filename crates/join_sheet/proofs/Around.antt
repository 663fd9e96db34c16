-- The label box that is kept beside the sheet while labels are attached, and the box of the union. Assumes nothing.
use mathlib.Core.Path.{sym, ap, ◌∙◌}
use mathlib.Core.List.{List}
use Prim.Native.Nat.{ℕ, ◌<◌}
use native.Mathlib.Omega.{arith}
use lib.ListN.{length-set}
use Rattle.std.specs.Prelude.{Option}
use Rattle.sizes.specs.Sizes.{corner_limit}
use Rattle.sheet.specs.Cells.{OnSheet, place_of}
use Rattle.sheet.specs.Words.{word_at, with_label, attached}
use Rattle.sheet.specs.declared.Cell.{Cell}
use Rattle.labels.specs.Box.{widened}
use Rattle.labels.specs.declared.Bounds.{Bounds}
use Rattle.labels.proofs.Box.{box_put}
use Rattle.join_sheet.specs.Held.{BoxKept}

-- a label attached, and the box widened by its cell
pub put_kept : (sheet : List ℕ) (around : Option Bounds) (c : Cell) (k : ℕ) → BoxKept sheet around → OnSheet c → k < corner_limit
    → BoxKept (attached sheet c k) (widened around c)
unfolding attached
put_kept sheet around c k g on small =
    record {
      long = omega (arith, g.long, length-set sheet (place_of c) (with_label (word_at sheet c) k));
      found = ap (λ (b : Option Bounds). widened b c) g.found ∙ sym (box_put sheet c k g.long on (omega arith));
    }
