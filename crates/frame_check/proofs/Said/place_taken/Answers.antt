-- `frame_check::Said::place_taken` meets its contract, label by label. Assumes nothing.
use mathlib.Core.Path.{◌∙◌}
use mathlib.Core.Bool.{Bool, false, ◌||◌}
use lib.ListN.{take}
use Rattle.std.proofs.Common.{rules}
use Rattle.std.proofs.lemmas.Iterator.{YieldsList-from_slice}
use Rattle.std.proofs.lemmas.Iterator.Consumers.{fold_from_yields_List}
use Rattle.join_sheet.specs.declared.SecondLabel.{SecondLabel}
use Rattle.frame_check.specs.Checks.{has_place}
use Rattle.frame_check.proofs.Laws.{taken_any}
use Rattle.frame_check.proofs.Said.place_taken.Goals as goal

pub returns : goal.returns
returns c =
    let labels = take c.args.n c.args.self.now.held.now.second in
    fold_from_yields_List _ (λ (t : Bool) (l : SecondLabel). t || has_place c.args.place l) _ _ c.fold.ensures.ran (YieldsList-from_slice labels cc)
    (λ a x b q k. search rules)
    ∙ taken_any c.args.place false labels
