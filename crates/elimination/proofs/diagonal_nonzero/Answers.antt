-- `elimination::diagonal_nonzero` meets its contract: a test of each number below 8. Assumes nothing.
use mathlib.Core.Path.{◌∙◌}
use mathlib.Core.Bool.{not}
use lib.Ieee.{eq}
use Rattle.std.proofs.Common.{rules, tests, arith}
use Rattle.std.proofs.lemmas.Iterator.{YieldsList-from_range}
use Rattle.std.proofs.lemmas.Iterator.Search.{all_from_yields_List}
use Rattle.binary32.specs.Numbers.{nought}
use Rattle.elimination.specs.Solve.{entry}
use Rattle.elimination.proofs.Tables.{range_is_every}
use Rattle.elimination.proofs.diagonal_nonzero.Goals as goal

pub returns : goal.returns
returns c =
    all_from_yields_List (λ k. not (eq (entry c.args.m.now k k) nought)) _ _ _ c.all.ensures.ran (YieldsList-from_range 0 8 8 (cc) (omega arith)) (λ x b q k. search (rules, tests)) ∙ range_is_every 8 _
