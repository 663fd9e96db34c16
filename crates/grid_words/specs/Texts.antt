-- The result's text for another language: beside the buffer for the text, lent words for how many bytes were written and which line comes next. Definitions only.
use Rattle.std.specs.Prelude.{Bool, true, false, List, ◌∷◌, ℕ, ltb, length, drop, Ok, Err}
use Rattle.refusal.specs.Refusal.{number_of}
use Rattle.report.specs.WriteResult.{TextAnswer, PieceAnswer, TextLent, TextOut, writes_text, PieceOut, writes_piece}

-- the answer, and every lent buffer after the call
pub record TextLeft : Type 0 where
  pub answer : ℕ
  pub text : List ℕ
  pub out : List ℕ

abbrev pub text_left : ℕ → List ℕ → List ℕ → TextLeft
text_left answer text out = record { answer = answer; text = text; out = out }

-- ---- the whole text: its length in one word

abbrev pub text_told : TextAnswer → List ℕ → List ℕ → TextLeft
text_told (Err r) text out = text_left (number_of r) text out
text_told (Ok bytes) text out = text_left 0 text (bytes ∷ drop 1 out)

abbrev pub text_written : TextOut → List ℕ → TextLeft
text_written o out = text_told o.answer o.out out

-- 7 where there is no room for the word, before anything is tried
abbrev pub text_unless : Bool → TextLent → List ℕ → List ℕ → TextLeft
text_unless true l text out = text_left 7 text out
text_unless false l text out = text_written (writes_text l text) out

unfoldable pub text_exported : TextLent → List ℕ → List ℕ → TextLeft
text_exported l text out = text_unless (ltb (length out) 1) l text out

-- ---- a piece of it: its length and the next line in two words

abbrev pub piece_told : PieceAnswer → List ℕ → List ℕ → TextLeft
piece_told (Err r) text out = text_left (number_of r) text out
piece_told (Ok end) text out = text_left 0 text (end.at ∷ end.next ∷ drop 2 out)

abbrev pub piece_written : PieceOut → List ℕ → TextLeft
piece_written o out = piece_told o.answer o.out out

abbrev pub piece_unless : Bool → TextLent → ℕ → List ℕ → List ℕ → TextLeft
piece_unless true l from text out = text_left 7 text out
piece_unless false l from text out = piece_written (writes_piece l from text) out

unfoldable pub piece_exported : TextLent → ℕ → List ℕ → List ℕ → TextLeft
piece_exported l from text out = piece_unless (ltb (length out) 2) l from text out
