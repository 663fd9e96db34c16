-- `fill::Filling::fill_place` meets its contract: by the region's test and by the label that the place has now. Assumes nothing.
use mathlib.Core.Path.{◌≡◌, sym, ap, subst, ◌∙◌}
use mathlib.Core.Bool.{Bool}
use Rattle.sheet.specs.Cells.{cell_of}
use Rattle.sheet.proofs.Laws.{cell_on_lem}
use Rattle.labels.proofs.Labelled.{label_of_place, unlabelled_none}
use Rattle.passes.specs.Fill.{FillState, box_and_strips}
use Rattle.region.proofs.Places.{looked_out, looked_labelled, looked_bare}
use Rattle.fill.specs.Filling.{Left}
use Rattle.fill.proofs.Visit.{untouched}
use Rattle.fill.proofs.Filling.fill_place.Goals as goal
use Rattle.fill.proofs.Filling.fill_place.Goals.{else-is_fill_cell-via-then-is_fill_cell+else-not-is_labelled, else-is_fill_cell-via-else-is_fill_cell}

pub try_fill_cell-requires : goal.try_fill_cell-requires
try_fill_cell-requires c =
    rw c.cell_of-c.ensures
    (record {
      on = cell_on_lem c.args.place c.requires;
      bare = label_of_place c.args.self.now.sheet.now c.args.place c.requires ∙ unlabelled_none _ (sym c.is_labelled.ensures ∙ c.if-not-is_labelled.true);
    })

pub returns-then-not-is_labelled : goal.returns-then-not-is_labelled
returns-then-not-is_labelled c =
    let a = c.args in
    let inside = ap (box_and_strips a.around) (sym c.cell_of-c.ensures) ∙ sym c.is_fill_cell.ensures ∙ c.if-is_fill_cell.true in
    subst (λ (s : FillState). Left a.self.now c.try_fill_cell.new.self s)
    (sym (looked_bare _ _ _ _ _ c.requires inside _ c.cell_of-c.ensures (sym c.is_labelled.ensures ∙ c.if-not-is_labelled.true))) c.try_fill_cell.ensures

pub returns-else-is_fill_cell : goal.returns-else-is_fill_cell
returns-else-is_fill_cell c =
    let a = c.args in
    let tested : (b : Bool) → c.is_fill_cell.result ≡ b → box_and_strips a.around (cell_of a.place) ≡ b = λ b e. ap (box_and_strips a.around) (sym c.cell_of-c.ensures) ∙ sym c.is_fill_cell.ensures ∙ e in
    elim c.else-is_fill_cell.branch [
      | else-is_fill_cell-via-then-is_fill_cell+else-not-is_labelled w ↦ untouched a.self.now (looked_labelled _ _ _ _ _ c.requires (tested _ w.if-is_fill_cell.true) (sym w.is_labelled.ensures ∙ w.if-not-is_labelled.false))
      | else-is_fill_cell-via-else-is_fill_cell w ↦ untouched a.self.now (looked_out _ _ _ _ _ (tested _ w.if-is_fill_cell.false))
    ]
