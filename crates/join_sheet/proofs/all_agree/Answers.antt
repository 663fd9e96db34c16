-- `join_sheet::all_agree` meets its contract, label by label. Assumes nothing.
use mathlib.Core.Path.{◌∙◌}
use Rattle.std.proofs.Common.{rules, tests}
use Rattle.std.proofs.lemmas.Iterator.{YieldsList-from_slice}
use Rattle.std.proofs.lemmas.Iterator.Search.{all_from_yields_List}
use Rattle.join.specs.Rule.{shifted_by}
use Rattle.join_sheet.specs.Held.{held_at, agrees_on}
use Rattle.join_sheet.specs.declared.SecondLabel.{SecondLabel}
use Rattle.join_sheet.proofs.Walk.{every_walked}
use Rattle.join_sheet.proofs.all_agree.Goals as goal

pub returns : goal.returns
returns c =
    let s = c.args.second.now in
    let sheet = c.args.first.now.sheet.now in
    all_from_yields_List (λ (l : SecondLabel). agrees_on sheet (shifted_by c.args.d.offset (held_at l))) _ _ _ c.all.ensures.ran
    (YieldsList-from_slice s.labels.now cc)
    (λ x b q k. search (rules, tests))
    ∙ every_walked c.args.d.offset (agrees_on sheet) s.labels.now
