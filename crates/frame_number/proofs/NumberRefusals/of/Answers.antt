-- `frame_number::NumberRefusals::of` meets its contract: which refusals some number has is found number by number. Assumes nothing.
use mathlib.Core.Path.{◌≡◌, ap, sym, subst, ◌∙◌}
use Rattle.std.specs.List.{fold}
use Rattle.std.proofs.Common.{rules}
use Rattle.std.proofs.lemmas.Iterator.{YieldsList-from_slice}
use Rattle.std.proofs.lemmas.Iterator.Consumers.{fold_from_yields_List}
use Rattle.frame_number.specs.declared.NumberRefusals.{NumberRefusals}
use Rattle.frame_number.proofs.Laws.{none_found, with_one, FoundAmong, found_of}
use Rattle.frame_number.proofs.NumberRefusals.of.Goals as goal
use Rattle.frame_number.proofs.NumberRefusals.of.Goals.{After-fold}

folded : (c : After-fold) → c.fold.result ≡ fold with_one (none_found c.args.each) c.args.each
folded c =
    fold_from_yields_List _ with_one _ _ c.fold.ensures.ran (YieldsList-from_slice c.args.each cc) (λ a x b q k. (search rules, search rules))
    ∙ ap (λ (f : NumberRefusals). fold with_one f c.args.each) (search rules)

all : (c : After-fold) → FoundAmong c.args.each c.fold.result
all c = subst (FoundAmong c.args.each) (sym (folded c)) (found_of c.args.each (search rules))

pub returns-clause-same : goal.returns-clause-same
returns-clause-same c = (all c).same

pub returns-clause-malformed : goal.returns-clause-malformed
returns-clause-malformed c = (all c).malformed

pub returns-clause-out_of_range : goal.returns-clause-out_of_range
returns-clause-out_of_range c = (all c).out_of_range

pub returns-clause-off_sheet : goal.returns-clause-off_sheet
returns-clause-off_sheet c = (all c).off_sheet

pub returns-clause-unknown_corner : goal.returns-clause-unknown_corner
returns-clause-unknown_corner c = (all c).unknown_corner
