-- `arguments::seen_twice` meets its contract: the walk stops at the first word whose corner was seen. Assumes nothing.
use Rattle.arguments.proofs.Tests.{twice_start, twice_hit, twice_more, twice_end}
use Rattle.arguments.proofs.seen_twice.Goals as goal

pub loop-word-init : goal.loop-word-init
loop-word-init c = rw c.into_iter-word-iterator.ensures.into_iter_gives (twice_start _ _ c.requires _ c.new-word-items.ensures.rest)

pub returns-then-note : goal.returns-then-note
returns-then-note c = twice_hit _ c.loop-word.invariant c.in-Some.ensures.steps (rw c.label_of.ensures at c.note.ensures) c.if-note.true

pub loop-word-preserved : goal.loop-word-preserved
loop-word-preserved c = twice_more _ c.loop-word.invariant c.in-Some.ensures.steps (rw c.label_of.ensures at c.note.ensures) c.if-note.false

pub returns : goal.returns
returns c = twice_end _ c.loop-word.invariant c.in-None.ensures.steps.0
