-- `join_sheet::verdict_of` meets its contract: the shift asked for is at most 128 each way. Assumes nothing.
use mathlib.Core.Path.{◌≡◌}
use borrow.Author.Rules.{rules}
use Rattle.std.specs.Prelude.{Some}
use Rattle.join.specs.Join.{asked}
use Rattle.join_sheet.specs.Held.{cell_on, held_labels}
use Rattle.join_sheet.proofs.Walk.{asked_within}
use Rattle.join_sheet.proofs.verdict_of.Goals as goal

pub invariant_of-test_shift : goal.invariant_of-test_shift
invariant_of-test_shift c =
    let s = c.args.second.now in
    let e : asked (cell_on c.args.first.now.sheet.now) (held_labels s.labels.now) ≡ Some c.in_ok-offset.offset = search rules in
    record { near = asked_within _ _ s.held _ e }
