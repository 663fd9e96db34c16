-- `arguments::note` meets its contract, by the label, whose corner has an entry. Assumes nothing.
use Rattle.arguments.proofs.Tests.{note_none, note_corner}
use Rattle.arguments.proofs.note.Goals as goal

pub returns-in-None : goal.returns-in-None
returns-in-None c = note_none _ _ c.in-None.is

pub returns-in-Some : goal.returns-in-Some
returns-in-Some c = rw (c.replace.ensures.after, c.replace.ensures.value) (note_corner _ _ _ c.in-Some.is (c.requires.entry _ c.in-Some.is))
