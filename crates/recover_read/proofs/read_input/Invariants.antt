-- `recover_read::read_input` meets its contract: what holds before each read. The measure is the rest of the buffer and the interruptions that may
-- still come. Assumes nothing.
use Rattle.std.proofs.Common.{◌≡◌, ◌+◌, ◌-◌, length, take}
use Rattle.std.specs.Io.KnownBytes.{Consumes}
use Rattle.recover_read.specs.Reading.{SoFar}
use Rattle.recover_read.proofs.read_input.Given as goal

abbrev pub invariant-loop-at : goal.invariant-loop-at
invariant-loop-at g l =
    (length l.buffer ≡ length l.initial.buffer) × SoFar l.buffer l.at l.tries
    × Consumes (g.R.Read.remaining l.initial.input) (g.R.Read.remaining l.input) (take l.at l.buffer)

abbrev pub decreases-loop-at : goal.decreases-loop-at
decreases-loop-at g l = (length l.buffer - l.at) + l.tries
