-- A run of the frame program (01, "Frame and result"): the bytes that the reads gave are answered, or a read failed and nothing is. Definitions only.
use Rattle.std.specs.Prelude.{◌≡◌, true, List, [], ◌++◌, ℕ, ◌<◌, ◌≤◌, length, Option, Result, Ok, Err, is_ok}
use Rattle.std.specs.Io.KnownBytes.{Appends, Consumes, IsAtEnd}
use Rattle.frame_answer.specs.Answer.{answer_text}
use Rattle.recover_read.specs.Reading.{Read, bytes_of, standing_after, Answers}
use Rattle.recover_read.specs.declared.ReadFailed.{ReadFailed}
use Rattle.recover_say.specs.Said.{text_after, piece_from, Told, WroteAnswer}
use Rattle.recover_say.specs.declared.Said.{Said}
use Rattle.recover.specs.declared.Fault.{Fault}

-- the whole answer was said, or why it was not
abbrev pub Outcome : Type 0
Outcome = Result Said Fault

-- what is said to an input of these bytes: all of the answer, or a part where the output could not be written; to one that could not be read, nothing
abbrev pub Replied : List ℕ → Result ℕ ReadFailed → Outcome → Type 0
Replied bytes (Ok n) (Ok said) = Told bytes said × (said.lines ≤ said.next)
Replied bytes (Ok n) (Err (Fault.Output cut)) = Told bytes cut.said × (cut.said.next < cut.said.lines)
Replied bytes (Ok n) (Err Fault.Input) = ⊥
Replied bytes (Err e) (Ok said) = ⊥
Replied bytes (Err e) (Err (Fault.Output cut)) = ⊥
Replied bytes (Err e) (Err Fault.Input) = Unit {0}

-- what the reads gave, one after the other, what became of the input, and what was said to it; 65,537 bytes are read at most, one more than a frame has
pub record Ran (outcome : Outcome) : Type 0 where
  pub reads : List Read
  pub input : Result ℕ ReadFailed
  pub read_so : Answers 65537 (standing_after reads) input
  pub replied : Replied (bytes_of reads) input outcome

-- the text of the pieces that were written, of the answer to these bytes
abbrev pub written : List ℕ → Outcome → List ℕ
written bytes (Ok said) = text_after (piece_from bytes) said.pieces
written bytes (Err (Fault.Output cut)) = text_after (piece_from bytes) cut.said.pieces
written bytes (Err Fault.Input) = []

-- where nothing went wrong, it is the whole answer to what was read; else a front part
pub record Printed (bytes : List ℕ) (outcome : Outcome) : Type 0 where
  pub whole : is_ok outcome ≡ true → written bytes outcome ≡ answer_text bytes
  pub rest : List ℕ
  pub front : written bytes outcome ++ rest ≡ answer_text bytes

-- so it is of every run
abbrev pub RanPrints : Type 0
RanPrints = (outcome : Outcome) (r : Ran outcome) → Printed (bytes_of r.reads) outcome

-- ---- what a writer took, where the bytes that it holds are known

-- how far it was said, to what a reader gave, whose bytes are known
abbrev pub AnsweredAs : Option (List ℕ) → Option (List ℕ) → Option (List ℕ) → Option (List ℕ) → Said → Type 0
AnsweredAs left left_after before after said =
    (bytes : List ℕ) × Consumes left left_after bytes × (length bytes ≤ 65537) × (length bytes < 65537 → IsAtEnd left_after)
    × WroteAnswer before after bytes said

-- a writer took the answer to all that the reader had left, or to its first 65,537 bytes, or a front part of it; where the input could not be read,
-- nothing
abbrev pub Answered : Option (List ℕ) → Option (List ℕ) → Option (List ℕ) → Option (List ℕ) → Outcome → Type 0
Answered left left_after before after (Ok said) = AnsweredAs left left_after before after said
Answered left left_after before after (Err (Fault.Output cut)) = AnsweredAs left left_after before after cut.said
Answered left left_after before after (Err Fault.Input) = Appends before after []
