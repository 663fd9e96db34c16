-- `recover_say::say` meets its contract: the pieces before each line are written, and each is lent whole. Assumes nothing.
use Rattle.std.proofs.Common.{◌≡◌, ◌-◌}
use Rattle.std.specs.Io.KnownBytes.{Appends}
use Rattle.recover_say.specs.Said.{Telling, held_from, text_after}
use Rattle.recover_say.proofs.say.Given as goal

abbrev pub invariant-loop-said : goal.invariant-loop-said
invariant-loop-said g l =
    Telling l.answer.recovered l.answer.words.now l.answer.sheet.now l.buffer l.said.pieces l.said.next × (l.said.lines ≡ l.lines)
    × Appends (g.W.Write.contents l.initial.out) (g.W.Write.contents l.out) (text_after (held_from l.answer.recovered l.answer.words.now l.answer.sheet.now) l.said.pieces)

abbrev pub decreases-loop-said : goal.decreases-loop-said
decreases-loop-said g l = l.lines - l.said.next
