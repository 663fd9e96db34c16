-- `frame_number::refusals_of` meets its contract: the five numbers' refusals are those of the definition. Assumes nothing.
use mathlib.Core.Path.{◌≡◌, ap, ◌∙◌}
use native.Mathlib.Omega.{arith}
use Rattle.std.proofs.Common.{rules}
use Rattle.frame_line.specs.Held.{refusals_in}
use Rattle.frame_line.proofs.Checking.{has_is}
use Rattle.frame_number.specs.Numbers.{numbers_of}
use Rattle.frame_number.proofs.Laws.{made_are}
use Rattle.frame_number.proofs.refusals_of.Goals as goal
use Rattle.frame_number.proofs.refusals_of.Goals.{After-from_fn-each}

made : (c : After-from_fn-each) → numbers_of c.from_fn-each.result ≡ refusals_in c.args.corners c.args.line.held
made c = made_are c.args.corners c.args.line.held c.args.line.listed _ _ c.from_fn-each.result c.from_fn-each.ensures.items (λ j r q l k. search rules)

pub returns-clause-each : goal.returns-clause-each
returns-clause-each c = ap numbers_of c.of.ensures.same ∙ made (goal.at.returns-clause-each c).After-from_fn-each

pub returns-clause-malformed : goal.returns-clause-malformed
returns-clause-malformed c = has_is _ _ (omega arith) (made (goal.at.returns-clause-malformed c).After-from_fn-each) c.of.ensures.malformed

pub returns-clause-out_of_range : goal.returns-clause-out_of_range
returns-clause-out_of_range c = has_is _ _ (omega arith) (made (goal.at.returns-clause-out_of_range c).After-from_fn-each) c.of.ensures.out_of_range

pub returns-clause-off_sheet : goal.returns-clause-off_sheet
returns-clause-off_sheet c = has_is _ _ (omega arith) (made (goal.at.returns-clause-off_sheet c).After-from_fn-each) c.of.ensures.off_sheet

pub returns-clause-unknown_corner : goal.returns-clause-unknown_corner
returns-clause-unknown_corner c = has_is _ _ (omega arith) (made (goal.at.returns-clause-unknown_corner c).After-from_fn-each) c.of.ensures.unknown_corner
