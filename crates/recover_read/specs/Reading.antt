-- Reading an input to its end: what a read's answer means, and what comes of all reads. Which bytes a read gives, only a reader whose bytes are known says.
-- Definitions only.
use Rattle.std.specs.Prelude.{◌≡◌, Bool, true, false, List, [], ◌∷◌, ◌++◌, ℕ, zero, suc, ◌+◌, ◌<◌, ◌≤◌, length, take, Result, Ok, Err, Option, ⊤}
use Rattle.std.specs.IoError.{error_kind}
use Rattle.std.specs.declared.io.ErrorKind.{ErrorKind}
use Rattle.std.specs.declared.io.Error.{Error}
use Rattle.std.specs.Io.KnownBytes.{Consumes, Keeps, IsAtEnd}
use Rattle.std.specs.declared.ops.ControlFlow.{ControlFlow}
use Rattle.std.specs.declared.ops.ControlFlow.TheVariants.{Break, Continue}
use Rattle.recover_read.specs.declared.NoAnswer.{NoAnswer}
use Rattle.recover_read.specs.declared.ReadFailed.{ReadFailed}

-- ---- one read

-- a read that gave no answer was interrupted, or it failed
unfoldable pub none_by : Bool → NoAnswer
none_by true = NoAnswer.Interrupted
none_by false = NoAnswer.Failed

-- an error says so by its kind
abbrev pub interrupts : ErrorKind → Bool
interrupts ErrorKind.Interrupted = true
interrupts _ = false

-- what a read's answer means: 0 bytes are the end, more are so many, and an error is none
unfoldable pub got_of : Result ℕ Error → Result ℕ NoAnswer
got_of (Ok n) = Ok n
got_of (Err error) = Err (none_by (interrupts (error_kind error)))

-- where bytes came, with those before them they are at most so many
abbrev pub FitsIn : ℕ → ℕ → Result ℕ NoAnswer → Type 0
FitsIn at room (Ok n) = at + n ≤ room
FitsIn at room (Err e) = Unit {0}

-- one read took what it gave from the front of the bytes that the reader has left, where those are known; at the end none is left
abbrev pub Took : Option (List ℕ) → Option (List ℕ) → List ℕ → Result ℕ NoAnswer → Type 0
Took before after rest (Ok zero) = Keeps before after × IsAtEnd after
Took before after rest (Ok (suc k)) = Consumes before after (take (suc k) rest)
Took before after rest (Err e) = Keeps before after

-- ---- all reads

-- a read failed
abbrev pub failure : Result ℕ ReadFailed
failure = Err (record {})

-- where a reading stands after one read more: it is over, or so many bytes are there and so many interruptions may still come; one interruption too
-- many is a failure
unfoldable pub read_on : ℕ → ℕ → Result ℕ NoAnswer → ControlFlow (Result ℕ ReadFailed) (ℕ × ℕ)
read_on at tries (Ok zero) = Break (Ok at)
read_on at tries (Ok (suc k)) = Continue (at + suc k, tries)
read_on at zero (Err NoAnswer.Interrupted) = Break failure
read_on at (suc tries) (Err NoAnswer.Interrupted) = Continue (at, tries)
read_on at tries (Err NoAnswer.Failed) = Break failure

-- what one read gave, with its bytes
pub data Read : Type 0 where
  some : List ℕ → Read
  ended : Read
  interrupted : Read
  failed : Read

-- the same without them
abbrev pub got_by : Read → Result ℕ NoAnswer
got_by (some bytes) = Ok (length bytes)
got_by ended = Ok 0
got_by interrupted = Err NoAnswer.Interrupted
got_by failed = Err NoAnswer.Failed

-- a reading that is over stays so
abbrev pub go_on : ControlFlow (Result ℕ ReadFailed) (ℕ × ℕ) → Result ℕ NoAnswer → ControlFlow (Result ℕ ReadFailed) (ℕ × ℕ)
go_on (Continue so) got = read_on so.0 so.1 got
go_on (Break answer) got = Break answer

-- where a reading stands after some reads, the last one first; 1,000 interruptions may come
unfoldable pub standing_after : List Read → ControlFlow (Result ℕ ReadFailed) (ℕ × ℕ)
standing_after [] = Continue (0, 1000)
standing_after (read ∷ reads) = go_on (standing_after reads) (got_by read)

-- the bytes of one read
abbrev pub bytes_in : Read → List ℕ
bytes_in (some bytes) = bytes
bytes_in ended = []
bytes_in interrupted = []
bytes_in failed = []

-- the bytes of some reads, the last one first
unfoldable pub bytes_of : List Read → List ℕ
bytes_of [] = []
bytes_of (read ∷ reads) = bytes_of reads ++ bytes_in read

-- what is answered: what the reading came to, or, where it goes on, that the buffer is full
pub data Answers (room : ℕ) : ControlFlow (Result ℕ ReadFailed) (ℕ × ℕ) → Result ℕ ReadFailed → Type 0 where
  over : (answer : Result ℕ ReadFailed) → Answers room (Break answer) answer
  full : (tries : ℕ) → Answers room (Continue (room, tries)) (Ok room)

-- the bytes that were read stand at the front of the buffer
abbrev pub AtFront : List ℕ → List ℕ → Result ℕ ReadFailed → Type 0
AtFront buffer bytes (Ok n) = (n ≤ length buffer) × (take n buffer ≡ bytes)
AtFront buffer bytes (Err e) = Unit {0}

-- an answer to what some reads gave, one after the other, and the buffer then
pub record ReadInto (buffer : List ℕ) (r : Result ℕ ReadFailed) : Type 0 where
  pub reads : List Read
  pub answers : Answers (length buffer) (standing_after reads) r
  pub front : AtFront buffer (bytes_of reads) r

-- what was read is the front of the bytes that the reader had left, where those are known; a buffer that is not full has all of them
abbrev pub TookAll : Option (List ℕ) → Option (List ℕ) → List ℕ → Result ℕ ReadFailed → Type 0
TookAll before after buffer (Ok n) = Consumes before after (take n buffer) × (n < length buffer → IsAtEnd after)
TookAll before after buffer (Err e) = ⊤

-- what holds before each read
pub record SoFar (buffer : List ℕ) (at tries : ℕ) : Type 0 where
  pub reads : List Read
  pub in_room : at ≤ length buffer
  pub stands : standing_after reads ≡ Continue (at, tries)
  pub front : take at buffer ≡ bytes_of reads
