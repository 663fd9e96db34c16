-- `elimination::all_finite` meets its contract: a test of each row. Assumes nothing.
use mathlib.Core.Path.{◌∙◌}
use mathlib.Core.List.{[]}
use Rattle.std.proofs.Common.{rules, tests}
use Rattle.std.proofs.lemmas.Iterator.{YieldsList-from_slice}
use Rattle.std.proofs.lemmas.Iterator.Search.{all_from_yields_List}
use Rattle.elimination.specs.Solve.{finite_row}
use Rattle.elimination.proofs.Tables.{all_is_every}
use Rattle.elimination.proofs.all_finite.Goals as goal

pub returns : goal.returns
returns c = all_from_yields_List finite_row _ _ _ c.all.ensures.ran (YieldsList-from_slice c.args.m.now cc) (λ x b q k. search (rules, tests)) ∙ all_is_every finite_row [] _ c.args.m.now c.told-m
