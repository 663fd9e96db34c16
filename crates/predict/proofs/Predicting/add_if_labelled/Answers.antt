-- `Predicting::add_if_labelled` meets its contract, by what is seen at the cell that is reached; a labelled cell is on the sheet. Assumes nothing.
use Rattle.std.specs.Prelude.{Option, Some, None}
use mathlib.Core.Path.{◌≡◌, sym, ap, ◌∙◌}
use Rattle.sheet.specs.declared.Cell.{Cell}
use Rattle.sheet.specs.declared.Corner.{Corner}
use Rattle.predict.specs.Predict.{with_neighbour, with_seen}
use Rattle.predict.specs.declared.Grid.{Grid}
use Rattle.predict.specs.declared.Sums.{Sums}
use Rattle.predict.proofs.Laws.{seen_on}
use Rattle.predict.proofs.Predicting.add_if_labelled.Goals as goal

module _ (seen : Cell → Option Corner) (grid : Grid) (c : Cell) (s : Sums) {cell at : Cell} {v : Option Corner} (reached : at ≡ cell) (found : v ≡ seen at) where
  passed : v ≡ None → s ≡ with_seen seen grid c s cell (seen cell)
  unfolding with_seen
  passed e = sym (ap (with_seen seen grid c s cell) (sym (found ∙ ap seen reached) ∙ e))

  added : (k : Corner) {r : Sums} → v ≡ Some k → r ≡ with_neighbour seen grid c s (record { at = at; position = k.position }) → r ≡ with_seen seen grid c s cell (seen cell)
  unfolding with_seen
  added k e f =
      f ∙ ap (λ (a : Cell). with_neighbour seen grid c s (record { at = a; position = k.position })) reached
      ∙ sym (ap (with_seen seen grid c s cell) (sym (found ∙ ap seen reached) ∙ e))

pub neighbour-at-requires : goal.neighbour-at-requires
neighbour-at-requires c = (c.args.self.now.on, c.requires)

pub add_neighbour-requires : goal.add_neighbour-requires
add_neighbour-requires c =
    seen_on _ _ _ _ (sym c.at.ensures ∙ c.in-Some.is)

pub returns-in-None : goal.returns-in-None
returns-in-None c =
    passed _ _ _ _
    c.neighbour-at.ensures
    c.at.ensures
    c.in-None.is

pub returns-in-Some : goal.returns-in-Some
returns-in-Some c =
    added _ _ _ _
    c.neighbour-at.ensures
    c.at.ensures
    _
    c.in-Some.is
    c.add_neighbour.ensures
