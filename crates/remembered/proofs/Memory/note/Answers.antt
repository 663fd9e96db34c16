-- `remembered::Memory::note` meets its contract: the entry of the place is written. Assumes nothing.
use mathlib.Core.Path.{refl}
use native.Mathlib.Omega.{arith}
use Rattle.remembered.proofs.Words.{put}
use Rattle.remembered.proofs.Memory.note.Goals as goal

pub returns : goal.returns
returns c = put c.requires.on (omega arith) (omega arith) c.place_of-place.ensures c.word_of.ensures c.aim_in.ensures refl refl
