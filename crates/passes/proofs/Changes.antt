-- One visit of each pass: the cell is labelled with what was found, no other cell changes; grow sets the finding's mark and clears none, fill
-- changes no mark, local clears both of the cell that it attaches. Assumes nothing.
use Rattle.std.specs.Prelude.{Some, Ok, Err}
use mathlib.Core.Path.{◌≡◌, refl, ◌∙◌}
use mathlib.Core.Bool.{true, false}
use mathlib.Core.List.{List}
use Prim.Native.Nat.{ℕ, ◌<◌}
use native.Mathlib.Omega.{arith}
use Rattle.sheet.specs.Cells.{OnSheet}
use Rattle.sheet.specs.Words.{bit_of, Content, label_at, hole_at, ambiguous_at, attached, hole_marked, ambiguous_marked, marks_cleared, SheetCell}
use Rattle.sheet.specs.declared.Cell.{Cell}
use Rattle.sheet.proofs.Words.{Changed, attached_changes, hole_changes, ambiguous_changes, cleared_changes, label_here, hole_here, ambiguous_here, label_else, hole_else, ambiguous_else}
use Rattle.extension_common.specs.declared.NotAttached.{NotAttached}
use Rattle.extension_common.specs.TryCell.{TryCellResult}
use Rattle.passes.specs.Grow.{GrowState, grow_with}
use Rattle.passes.specs.Fill.{FillState, fill_with}
use Rattle.passes.specs.Local.{LocalState, local_with}
use Rattle.passes.specs.Changes.{label_with, SameMarks, SameCell, Labels, Tried, GrowVisit, FillVisit, LocalVisit, Visits}

-- ---- a sheet that was changed

pub same_marks : (sheet : List ℕ) (d : Cell) → SameMarks sheet sheet d
same_marks sheet d = record { hole = refl; ambiguous = refl }

pub same_cell_lem : (sheet : List ℕ) (d : Cell) → SameCell sheet sheet d
same_cell_lem sheet d = record { label = refl; marks = same_marks sheet d }

-- one change after the other
pub marks_then : {first mid last : List ℕ} {d : Cell} → SameMarks first mid d → SameMarks mid last d → SameMarks first last d
marks_then a b = record { hole = b.hole ∙ a.hole; ambiguous = b.ambiguous ∙ a.ambiguous }

cell_then : {first mid last : List ℕ} {d : Cell} → SameCell first mid d → SameCell mid last d → SameCell first last d
cell_then a b = record { label = b.label ∙ a.label; marks = marks_then a.marks b.marks }

module _ {before after : List ℕ} {c : Cell} {content : Content} (ch : Changed before after c content) (on : OnSheet c) where
  -- every other cell is as it was
  others_same : (d : Cell) → (d ≡ c → ⊥) → SameCell before after d
  others_same d ne = record { label = label_else ch on d ne; marks = record { hole = hole_else ch on d ne; ambiguous = ambiguous_else ch on d ne } }

  labels_with : (r : TryCellResult) → content.label ≡ label_with r (label_at before c) → Labels r before after c
  labels_with r e = record { same_length = ch.same_length; label = label_here ch on ∙ e; others = others_same }

-- ---- the three changes of a visit

module _ {sheet : List ℕ} {c : Cell} (w : SheetCell sheet c) where
  hole_so : Changed sheet (hole_marked sheet c) c (record { label = label_at sheet c; hole = true; ambiguous = ambiguous_at sheet c })
  hole_so = hole_changes sheet c w.long w.on

  ambiguous_so : Changed sheet (ambiguous_marked sheet c) c (record { label = label_at sheet c; hole = hole_at sheet c; ambiguous = true })
  ambiguous_so = ambiguous_changes sheet c w.long w.on

  module _ (k : ℕ) (fits : k < 16383) where
    attached_so : Changed sheet (attached sheet c k) c (record { label = Some k; hole = hole_at sheet c; ambiguous = ambiguous_at sheet c })
    attached_so = attached_changes sheet c w.long w.on k fits

    cleared_so : Changed (attached sheet c k) (marks_cleared (attached sheet c k) c) c (record { label = label_at (attached sheet c k) c; hole = false; ambiguous = false })
    cleared_so = cleared_changes (attached sheet c k) c (rw attached_so.same_length w.long) w.on

    cleared_labels : Labels (Ok k) sheet (marks_cleared (attached sheet c k) c) c
    cleared_labels =
        record {
          same_length = cleared_so.same_length ∙ attached_so.same_length;
          label = label_here cleared_so w.on ∙ label_here attached_so w.on;
          others = λ d ne. cell_then (others_same attached_so w.on d ne) (others_same cleared_so w.on d ne);
        }

-- nothing was changed
untouched : (r : TryCellResult) (sheet : List ℕ) (c : Cell) → label_at sheet c ≡ label_with r (label_at sheet c) → Labels r sheet sheet c
untouched r sheet c e = record { same_length = refl; label = e; others = λ d ne. same_cell_lem sheet d }

-- ---- one visit of each pass

grow_visit_lem : (c : Cell) (r : TryCellResult) (s : GrowState) → Tried s.sheet c r → GrowVisit r c s (grow_with c r s)
unfolding grow_with bit_of
grow_visit_lem c (Err NotAttached.NoCandidates) s w =
    let ch = hole_so w.cell in
    record {
      marks = record { hole = hole_here ch w.cell.on; ambiguous = ambiguous_here ch w.cell.on };
      labels = labels_with ch w.cell.on (Err NotAttached.NoCandidates) refl;
      made = refl;
      counted = record { attached = omega arith; no_candidate = omega arith; ambiguous = omega arith; edge = omega arith };
    }
grow_visit_lem c (Err NotAttached.Ambiguous) s w =
    let ch = ambiguous_so w.cell in
    record {
      marks = record { hole = hole_here ch w.cell.on; ambiguous = ambiguous_here ch w.cell.on };
      labels = labels_with ch w.cell.on (Err NotAttached.Ambiguous) refl;
      made = refl;
      counted = record { attached = omega arith; no_candidate = omega arith; ambiguous = omega arith; edge = omega arith };
    }
grow_visit_lem c (Err NotAttached.EdgeRejected) s w =
    let ch = hole_so w.cell in
    record {
      marks = record { hole = hole_here ch w.cell.on; ambiguous = ambiguous_here ch w.cell.on };
      labels = labels_with ch w.cell.on (Err NotAttached.EdgeRejected) refl;
      made = refl;
      counted = record { attached = omega arith; no_candidate = omega arith; ambiguous = omega arith; edge = omega arith };
    }
grow_visit_lem c (Ok k) s w =
    let ch = attached_so w.cell k (w.corner_fits k refl) in
    record {
      marks = record { hole = hole_here ch w.cell.on; ambiguous = ambiguous_here ch w.cell.on };
      labels = labels_with ch w.cell.on (Ok k) refl;
      made = refl;
      counted = record { attached = omega arith; no_candidate = omega arith; ambiguous = omega arith; edge = omega arith };
    }

fill_visit_lem : (c : Cell) (r : TryCellResult) (s : FillState) → Tried s.sheet c r → FillVisit r c s (fill_with c r s)
unfolding fill_with
fill_visit_lem c (Err e) s w = record { marks = same_marks s.sheet c; labels = untouched (Err e) s.sheet c refl; made = refl }
fill_visit_lem c (Ok k) s w =
    let ch = attached_so w.cell k (w.corner_fits k refl) in
    record {
      marks = record { hole = hole_here ch w.cell.on; ambiguous = ambiguous_here ch w.cell.on };
      labels = labels_with ch w.cell.on (Ok k) refl;
      made = refl;
    }

local_visit_lem : (c : Cell) (r : TryCellResult) (s : LocalState) → Tried s.sheet c r → LocalVisit r c s (local_with c r s)
unfolding local_with bit_of
local_visit_lem c (Err NotAttached.NoCandidates) s w =
    record {
      marks = record { hole = refl; ambiguous = refl };
      labels = untouched (Err NotAttached.NoCandidates) s.sheet c refl;
      made = refl;
      counted = record { attached = omega arith; no_candidate = omega arith; ambiguous = omega arith; edge = omega arith };
    }
local_visit_lem c (Err NotAttached.Ambiguous) s w =
    record {
      marks = record { hole = refl; ambiguous = refl };
      labels = untouched (Err NotAttached.Ambiguous) s.sheet c refl;
      made = refl;
      counted = record { attached = omega arith; no_candidate = omega arith; ambiguous = omega arith; edge = omega arith };
    }
local_visit_lem c (Err NotAttached.EdgeRejected) s w =
    record {
      marks = record { hole = refl; ambiguous = refl };
      labels = untouched (Err NotAttached.EdgeRejected) s.sheet c refl;
      made = refl;
      counted = record { attached = omega arith; no_candidate = omega arith; ambiguous = omega arith; edge = omega arith };
    }
local_visit_lem c (Ok k) s w =
    let fits = w.corner_fits k refl in
    let ch = cleared_so w.cell k fits in
    record {
      marks = record { hole = hole_here ch w.cell.on; ambiguous = ambiguous_here ch w.cell.on };
      labels = cleared_labels w.cell k fits;
      made = refl;
      counted = record { attached = omega arith; no_candidate = omega arith; ambiguous = omega arith; edge = omega arith };
    }

pub visits : Visits
visits = record { grow = grow_visit_lem; fill = fill_visit_lem; local = local_visit_lem }
