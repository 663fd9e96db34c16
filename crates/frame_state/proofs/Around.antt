-- The label box that is kept with the sheet while lines are read. Assumes nothing.
use mathlib.Core.Path.{◌≡◌, refl, sym, ap, ◌∙◌}
use mathlib.Core.Bool.{Bool, true, false}
use Prim.Native.Nat.{◌<◌, ◌≤◌}
use native.Mathlib.Omega.{arith}
use lib.ListN.{length}
use Rattle.std.specs.Prelude.{Option}
use Rattle.labels.specs.Box.{widened}
use Rattle.labels.specs.declared.Bounds.{Bounds}
use Rattle.labels.proofs.Box.{box_put, box_empty}
use Rattle.sizes.specs.Sizes.{place_count}
use Rattle.sheet.specs.Words.{empty_sheet}
use Rattle.frame_line.specs.Table.{row_count, kind_at}
use Rattle.frame_line.specs.Held.{label_in}
use Rattle.frame_line.specs.declared.Kind.{Kind}
use Rattle.frame_line.specs.declared.HeldLine.{HeldLine}
use Rattle.frame_line.specs.declared.HeldLabel.{HeldLabel}
use Rattle.frame_check.specs.Checks.{nothing_held, LabelFits}
use Rattle.frame_state.specs.State.{patched_of, nothing_said, State, state, label_to, adds_as, BoxFound, Addable, ReadingKeepsBox}
use Rattle.frame_state.proofs.Laws.{labels_room}

-- a label widens the box by its cell, if it is one of the first set
pub label_found : (t : Bool) (l : HeldLabel) (s : State) → place_count ≤ length s.held.sheet → LabelFits l → BoxFound s → BoxFound (label_to t l s)
label_found true l s long fits g = g
label_found false l s long fits g =
    ap (λ (b : Option Bounds). widened b l.cell) g ∙ sym (box_put s.held.sheet l.cell l.corner long fits.on (omega (arith, fits.entry)))

module _ (line : HeldLine) (s : State) (listed : line.row < row_count) (f : Addable s.progress s.held line) (g : BoxFound s) where
  by_kind : (kind : Kind) → kind_at line.row ≡ kind → BoxFound (adds_as kind line.values s)
  unfolding adds_as
  by_kind (Kind.Opening o) e = g
  by_kind Kind.Corner e = g
  by_kind Kind.Label e = label_found (patched_of s.progress) (label_in line.values) s (omega (arith, f.long)) (labels_room listed f e).label g
  by_kind Kind.Patch e = g
  by_kind Kind.Shade e = g
  by_kind (Kind.As r) e = g
  by_kind (Kind.Pass p) e = g

-- "Reading labels, joining and attaching must each keep them equal to what a search would find": reading
pub reading_keeps_box : ReadingKeepsBox
reading_keeps_box line s listed f g = by_kind line s listed f g (kind_at line.row) refl

-- before the first line
pub nothing_found : BoxFound (state nothing_said nothing_held)
unfolding empty_sheet
nothing_found = sym box_empty
