-- `join_sheet::write_new` meets its contract: what is left of the labels gives the whole sheet, and the box is kept. Assumes nothing.
use Rattle.std.specs.Prelude.{◌≡◌}
use lib.ListN.{drop}
use Rattle.join.specs.Sheets.{labelled}
use Rattle.join_sheet.specs.Held.{held_labels, new_held, BoxKept}
use Rattle.join_sheet.proofs.write_new.Given as goal

abbrev pub invariant-loop-l : goal.invariant-loop-l
invariant-loop-l l =
    labelled l.sheet (new_held l.used (held_labels (drop l.l-index l.second.labels.now)) l.d.offset)
    ≡ labelled l.initial.sheet (new_held l.used (held_labels l.second.labels.now) l.d.offset)
    × BoxKept l.sheet l.around
