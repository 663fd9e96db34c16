-- `join_sheet::Second::all_on` meets its contract, label by label. Assumes nothing.
use mathlib.Core.Path.{◌∙◌}
use Rattle.std.proofs.Common.{rules, tests}
use Rattle.std.proofs.lemmas.Iterator.{YieldsList-from_slice}
use Rattle.std.proofs.lemmas.Iterator.Search.{all_from_yields_List}
use Rattle.sheet.specs.Cells.{on_sheet}
use Rattle.join.specs.Rule.{shifted_by}
use Rattle.join_sheet.specs.Held.{held_at}
use Rattle.join_sheet.specs.declared.SecondLabel.{SecondLabel}
use Rattle.join_sheet.proofs.Walk.{every_walked}
use Rattle.join_sheet.proofs.Second.all_on.Goals as goal

pub returns : goal.returns
returns c =
    let s = c.args.self.now in
    all_from_yields_List (λ (l : SecondLabel). on_sheet (shifted_by c.args.d.offset (held_at l)).cell) _ _ _ c.all.ensures.ran
    (YieldsList-from_slice s.labels.now cc)
    (λ x b q k. search (rules, tests))
    ∙ every_walked c.args.d.offset (λ l. on_sheet l.cell) s.labels.now
