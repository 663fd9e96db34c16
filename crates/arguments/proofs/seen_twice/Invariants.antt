-- `arguments::seen_twice` meets its contract: whether a corner is seen twice in what is left is whether one is on the sheet. Assumes nothing.
use Rattle.sheet.specs.Blank.{written_rest}
use Rattle.arguments.proofs.Tests.{Left}
use Rattle.arguments.proofs.seen_twice.Given as goal

abbrev pub invariant-loop-word : goal.invariant-loop-word
invariant-loop-word l = Left l.sheet l.seen (written_rest l.word-iterator)
