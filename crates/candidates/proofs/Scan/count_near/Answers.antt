-- `Scan::count_near` meets its contract: 1 for each corner that is near. Assumes nothing.
use mathlib.Core.Path.{◌∙◌}
use Prim.Native.Nat.{ℕ, ◌+◌}
use mathlib.Core.Bool.{Bool}
use Rattle.std.proofs.Common.{rules, tests, arith}
use Rattle.std.specs.List.{range_with_len}
use Rattle.std.proofs.lemmas.Iterator.{YieldsList-from_range, YieldsList-from_map}
use Rattle.std.proofs.lemmas.Iterator.Consumers.{sum_by_from_yields_List, fits_by_from_yields_list}
use Rattle.candidates.specs.Candidates.{positions_in}
use Rattle.candidates.specs.Steps.{is_near, one_if}
use Rattle.candidates.proofs.Scanning.{count_is, count_most, byte_is}
use Rattle.candidates.proofs.Scan.count_near.Goals as goal
use Rattle.candidates.proofs.Scan.count_near.Goals.{Start}

-- whether a corner is near
abbrev near : Start → ℕ → Bool
near c = is_near (positions_in c.args.self.now.held.corners.now) c.args.self.now.prediction c.args.limit

pub sum-requires-clause-fits : goal.sum-requires-clause-fits
sum-requires-clause-fits c =
    let test = near (goal.at.sum-requires-clause-fits c).Start in
    fits_by_from_yields_list (λ i. one_if test (c.args.from + i)) (range_with_len 0 32) _ _
    (YieldsList-from_map _ (λ i. one_if test (c.args.from + i)) (YieldsList-from_range 0 32 32 (cc) (omega arith)) c.map.ensures.closure (λ x r q k. search (rules, tests, byte_is)))
    (omega (arith, count_is test c.args.from 32, count_most test c.args.from 32))

pub returns : goal.returns
returns c =
    let test = near (goal.at.returns c).Start in
    sum_by_from_yields_List (λ i. one_if test (c.args.from + i)) (range_with_len 0 32) _ c.sum.result c.sum.ensures.ran
    (YieldsList-from_map _ (λ i. one_if test (c.args.from + i)) (YieldsList-from_range 0 32 32 (cc) (omega arith)) c.map.ensures.closure (λ x r q k. search (rules, tests, byte_is)))
    ∙ count_is test c.args.from 32
