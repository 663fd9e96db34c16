-- `predict::local_step_at` meets its contract, from what is seen on both sides of the neighbour. Assumes nothing.
use Rattle.sheet.specs.declared.Corner.{Corner}
use mathlib.Core.Path.{◌≡◌, ◌∙◌}
use Rattle.sheet.specs.Cells.{moved}
use Rattle.sheet.specs.declared.Cell.{Cell}
use Rattle.sheet.specs.declared.Offset.{Offset}
use Rattle.predict.specs.Predict.{forward_of, backward_of, step_between, step_at}
use Rattle.predict.specs.declared.Neighbour.{Neighbour}
use Rattle.predict.specs.declared.Direction.{Direction}
use Rattle.predict.specs.declared.LocalStep.{LocalStep}
use Rattle.std.specs.Prelude.{Option}
use Rattle.predict.proofs.local_step_at.Goals as goal

-- the step from what is seen at the two cells that were reached
settled : (seen : Cell → Option Corner) (n : Neighbour) (d : Direction) {r : LocalStep} {f b : Option Corner} {fc bc : Cell} {fo bo : Offset} → r ≡ step_between n.position f b
    → f ≡ seen fc → fc ≡ moved n.at fo → fo ≡ forward_of d → b ≡ seen bc → bc ≡ moved n.at bo → bo ≡ backward_of d → r ≡ step_at seen n d
unfolding step_at
settled seen n d e f fc fo b bc bo = e ∙ rw (f, fc, fo, b, bc, bo)

pub returns : goal.returns
returns c =
    settled _ _ _ c.step_between.ensures
    c.at-f.ensures
    c.neighbour.ensures
    c.forward.ensures
    c.at-b.ensures
    c.neighbour-2.ensures
    c.backward.ensures
