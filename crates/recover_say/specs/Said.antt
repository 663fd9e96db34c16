-- How far an answer was said: how many pieces were written, which line comes after them, and what they are of the answer. What the written bytes
-- do outside the program is no part of this; of a writer whose bytes are known it is said what it took. Definitions only.
use Rattle.std.specs.Prelude.{◌≡◌, Bool, true, false, List, [], ◌++◌, ℕ, zero, suc, ◌+◌, ◌<◌, ◌≤◌, length, Option, Result, Ok, Err}
use Rattle.std.specs.Io.KnownBytes.{Appends}
use Rattle.frame.specs.Frame.{read_frame}
use Rattle.report_line.specs.Result.{Piece}
use Rattle.frame_answer.specs.Answer.{answer_lines, answer_piece, answer_text, held_lines, held_piece}
use Rattle.frame.specs.declared.FrameRefusal.{FrameRefusal}
use Rattle.frame_answer.specs.declared.Recovered.{Recovered}
use Rattle.recover_say.specs.declared.CutOff.{CutOff}
use Rattle.recover_say.specs.declared.Said.{Said}

-- ---- pieces in order, each given by the line that it starts from

-- the line after n pieces
unfoldable pub line_after : (ℕ → Piece) → ℕ → ℕ
line_after piece zero = 0
line_after piece (suc n) = (piece (line_after piece n)).next

-- the texts of n pieces, joined
unfoldable pub text_after : (ℕ → Piece) → ℕ → List ℕ
text_after piece zero = []
text_after piece (suc n) = text_after piece n ++ (piece (line_after piece n)).text

-- so many pieces of an answer of so many lines: each starts at a line that there is
pub record SaidOf (lines : ℕ) (piece : ℕ → Piece) (r : Said) : Type 0 where
  pub lines_so : r.lines ≡ lines
  pub next_so : r.next ≡ line_after piece r.pieces
  pub few : r.pieces ≤ lines
  pub started : (k : ℕ) → k < r.pieces → line_after piece k < lines

-- how far it was said, whether all of it was or it was cut off
abbrev pub said_of : Result Said CutOff → Said
said_of (Ok r) = r
said_of (Err e) = e.said

-- all was said where the line after the last piece is past the last line, and else it was cut off
abbrev pub SaidAs : (Said → Type 0) → Result Said CutOff → Type 0
SaidAs Told (Ok r) = Told r × (r.lines ≤ r.next)
SaidAs Told (Err e) = Told e.said × (e.said.next < e.said.lines)

-- ---- the answer to a text

-- its pieces, into 4,096 bytes each
abbrev pub piece_from : List ℕ → ℕ → Piece
piece_from text k = answer_piece (read_frame text) k 4096

-- how far it was said
abbrev pub Told : List ℕ → Said → Type 0
Told text r = SaidOf (answer_lines (read_frame text)) (piece_from text) r

-- what the written pieces are of the answer: the front of it, and all of it where the line after them is past the last
pub record Prints (text : List ℕ) (r : Said) : Type 0 where
  pub rest : List ℕ
  pub front : text_after (piece_from text) r.pieces ++ rest ≡ answer_text text
  pub whole : r.lines ≤ r.next → text_after (piece_from text) r.pieces ≡ answer_text text

-- so it is of every answer that was told so far
abbrev pub ToldPrints : Type 0
ToldPrints = (text : List ℕ) (r : Said) → Told text r → Prints text r

-- ---- the same from what a run holds

-- the pieces of what is held
abbrev pub held_from : Result Recovered FrameRefusal → List ℕ → List ℕ → ℕ → Piece
held_from answer words sheet k = held_piece answer words sheet k 4096

-- how far it was said
abbrev pub ToldOf : Result Recovered FrameRefusal → List ℕ → List ℕ → Said → Type 0
ToldOf answer words sheet r = SaidOf (held_lines answer) (held_from answer words sheet) r

-- the text of a piece by its number, no more and no less
abbrev pub PieceText : Result Recovered FrameRefusal → List ℕ → List ℕ → ℕ → List ℕ → Type 0
PieceText answer words sheet n text = text ≡ (held_from answer words sheet (line_after (held_from answer words sheet) n)).text

-- so many pieces are written, which end before a line, and the buffer is whole
pub record Telling (answer : Result Recovered FrameRefusal) (words sheet out : List ℕ) (n from : ℕ) : Type 0 where
  pub whole : 4096 ≡ length out
  pub reached : from ≡ line_after (held_from answer words sheet) n
  pub behind : n ≤ from
  pub few : n ≤ held_lines answer
  pub started : (k : ℕ) → k < n → line_after (held_from answer words sheet) k < held_lines answer

-- ---- what a writer took, where the bytes that it holds are known

-- a text, or, where a write failed, a front part of it
abbrev pub WroteText : Option (List ℕ) → Option (List ℕ) → List ℕ → Bool → Type 0
WroteText before after text true = Appends before after text
WroteText before after text false = (part : List ℕ) × (rest : List ℕ) × (part ++ rest ≡ text) × Appends before after part

-- so many pieces, and of the next one a part, if it could not be written
pub record WroteOf (before after : Option (List ℕ)) (piece : ℕ → Piece) (r : Said) : Type 0 where
  pub part : List ℕ
  pub rest : List ℕ
  pub taken : Appends before after (text_after piece r.pieces ++ part)
  pub nothing : r.lines ≤ r.next → part ≡ []
  pub of_next : r.next < r.lines → (r.pieces < r.lines) × (part ++ rest ≡ (piece (line_after piece r.pieces)).text)

-- a front part of the answer, and all of it where the next line is past the last
pub record WroteAnswer (before after : Option (List ℕ)) (text : List ℕ) (r : Said) : Type 0 where
  pub part : List ℕ
  pub rest : List ℕ
  pub taken : Appends before after part
  pub front : part ++ rest ≡ answer_text text
  pub whole : r.lines ≤ r.next → part ≡ answer_text text
