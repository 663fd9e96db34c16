-- `arguments::search_sheet` meets its contract: what was found, and what is left adds to it. Assumes nothing.
use Rattle.sheet.specs.Blank.{written_rest}
use Rattle.arguments.proofs.SheetSearch.{Walk}
use Rattle.arguments.proofs.search_sheet.Given as goal

abbrev pub invariant-loop-place_and_word : goal.invariant-loop-place_and_word
invariant-loop-place_and_word l = Walk l.n l.sheet l.found l.seen (written_rest l.place_and_word-iterator)
