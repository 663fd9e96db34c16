-- `labels::mark_used` meets its contract: what is left to note gives what noting all gives. Assumes nothing.
use mathlib.Core.Path.{◌≡◌}
use mathlib.Core.Bool.{false}
use lib.ListN.{replicate}
use Rattle.std.specs.List.{fold}
use Rattle.sheet.specs.Blank.{written_from, written_rest}
use Rattle.labels.proofs.Used.{word_noted}
use Rattle.labels.proofs.mark_used.Given as goal

abbrev pub invariant-loop-word : goal.invariant-loop-word
invariant-loop-word l = fold word_noted l.used (written_rest l.word-iterator) ≡ fold word_noted (replicate 1024 false) (written_from l.sheet 0)
