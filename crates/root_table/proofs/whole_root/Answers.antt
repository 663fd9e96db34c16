-- `root_table::whole_root` meets its contract: antt computes that the code's table is the list, entry by entry, and so the list's rule is the table's.
-- Assumes nothing.
use mathlib.Core.Path.{refl}
use Rattle.root_table.specs.Roots.{roots, entry}
use Rattle.root_table.proofs.Rule.{rule}
use Rattle.root_table.proofs.whole_root.Goals as goal

pub returns : goal.returns
unfolding roots entry
returns c = record { listed = refl; ruled = rule c.args.k c.requires }
