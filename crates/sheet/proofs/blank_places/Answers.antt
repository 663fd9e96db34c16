-- `sheet::blank_places` meets its contract: from a row's start on it is the whole row where that is blank, else 16 places at once where they are,
-- and else a run of places. Assumes nothing.
use mathlib.Core.Path.{sym, ◌∙◌}
use native.Mathlib.Omega.{arith}
use Rattle.sheet.proofs.Blank.{block_found, run_found}
use Rattle.sheet.proofs.blank_places.Goals as goal

pub returns-then-all_blank : goal.returns-then-all_blank
returns-then-all_blank c = block_found _ _ _ (omega arith) (omega arith) (omega arith) (sym c.all_blank.ensures ∙ c.if-all_blank.true)

pub returns-then-all_blank-2 : goal.returns-then-all_blank-2
returns-then-all_blank-2 c = block_found _ _ _ (omega arith) (omega arith) (omega arith) (sym c.all_blank-then-at-eq0-2.ensures ∙ c.if-all_blank-2.true)

pub returns-else-at-eq0-2 : goal.returns-else-at-eq0-2
returns-else-at-eq0-2 c = run_found _ _ _ (omega arith) c.blank_run.ensures
