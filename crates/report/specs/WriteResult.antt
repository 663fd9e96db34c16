-- The library calls that write a result's text (document 01, "Frame and result": "Needed are .. for a text its whole length. The library tries 7, 2,
-- 3, 5, 6; a refusal changes no buffer"). The outcomes of the passes are lent as words. Definitions only.
use Rattle.std.specs.Prelude.{Bool, ◌||◌, List, ℕ, ◌*◌, ltb, length, Ok, Err, Result}
use Rattle.refusal.specs.declared.Refusal.{Refusal}
use Rattle.labels.specs.Labelled.{any_below}
use Rattle.arguments.specs.Arguments.{Checked, refused_if, unknown_corner, doubled_corner}
use Rattle.report_line.specs.Result.{result_text, Piece, result_piece, line_count}
use Rattle.sizes.specs.Sizes.{place_count, corner_limit, pass_limit, outcome_size}
use Rattle.report_line.specs.Sizes.{line_room}
use Rattle.arguments.specs.Front.{over}
use Rattle.report_words.specs.Outcomes.{outcomes_in, wild_outcome}
use Rattle.report.specs.declared.lines.PieceEnd.{PieceEnd}

-- ---- what is lent: how many corners and passes, the outcomes' words, the sheet, and how long the buffer for the text is

pub record TextLent : Type 0 where
  pub corners : ℕ
  pub passes : ℕ
  pub words : List ℕ
  pub sheet : List ℕ

abbrev pub text_lent : ℕ → ℕ → List ℕ → List ℕ → TextLent
text_lent corners passes words sheet = record { corners = corners; passes = passes; words = words; sheet = sheet }

abbrev pub text_of : TextLent → List ℕ
text_of l = result_text (outcomes_in l.passes l.words) l.sheet

-- 7: words and sheet are there
unfoldable pub input_short : TextLent → Bool
input_short l = ltb (length l.words) (outcome_size * l.passes) || ltb (length l.sheet) place_count

-- 2: over 16 outcomes or 1,024 corners
unfoldable pub over_limit : TextLent → Bool
over_limit l = ltb pass_limit l.passes || ltb corner_limit l.corners

-- 3: some outcome's words are not those that an outcome has
unfoldable pub wild : TextLent → Bool
wild l = any_below l.passes (wild_outcome l.words)

-- 2, 3, 5 and 6 in order
unfoldable pub checked_rest : TextLent → Checked
checked_rest l =
    refused_if (over_limit l) Refusal.OverLimit
    (refused_if (wild l) Refusal.OutOfRange
    (refused_if (unknown_corner l.corners l.sheet) Refusal.UnknownCorner
    (refused_if (doubled_corner l.sheet) Refusal.Duplicate (Ok tt))))

-- ---- the whole text

-- 7 first: "for a text its whole length"
unfoldable pub checked_text : TextLent → ℕ → Checked
checked_text l room = refused_if (input_short l || ltb room (length (text_of l))) Refusal.BufferTooShort (checked_rest l)

-- how many bytes were written, or why nothing was
abbrev pub TextAnswer : Type 0
TextAnswer = Result ℕ Refusal

pub record TextOut : Type 0 where
  pub answer : TextAnswer
  pub out : List ℕ

abbrev pub text_out : TextAnswer → List ℕ → TextOut
text_out r out = record { answer = r; out = out }

abbrev pub text_leaves : Checked → TextLent → List ℕ → TextOut
text_leaves (Ok tt) l out = text_out (Ok (length (text_of l))) (over (text_of l) out)
text_leaves (Err r) l out = text_out (Err r) out

unfoldable pub writes_text : TextLent → List ℕ → TextOut
writes_text l out = text_leaves (checked_text l (length out)) l out

-- ---- a piece of it

abbrev pub piece_in : TextLent → ℕ → ℕ → Piece
piece_in l from room = result_piece (outcomes_in l.passes l.words) l.sheet from room

-- 7: there is room for any line; 3: there is such a line, or it is the one after the last
unfoldable pub checked_piece : TextLent → ℕ → ℕ → Checked
checked_piece l from room =
    refused_if (input_short l || ltb room line_room) Refusal.BufferTooShort
    (refused_if (over_limit l) Refusal.OverLimit
    (refused_if (wild l || ltb (line_count l.passes) from) Refusal.OutOfRange
    (refused_if (unknown_corner l.corners l.sheet) Refusal.UnknownCorner
    (refused_if (doubled_corner l.sheet) Refusal.Duplicate (Ok tt)))))

-- how many bytes were written and which line comes next, or why nothing was
abbrev pub PieceAnswer : Type 0
PieceAnswer = Result PieceEnd Refusal

pub record PieceOut : Type 0 where
  pub answer : PieceAnswer
  pub out : List ℕ

abbrev pub piece_out : PieceAnswer → List ℕ → PieceOut
piece_out r out = record { answer = r; out = out }

abbrev pub piece_leaves : Checked → Piece → List ℕ → PieceOut
piece_leaves (Ok tt) p out = piece_out (Ok (record { at = length p.text; next = p.next })) (over p.text out)
piece_leaves (Err r) p out = piece_out (Err r) out

unfoldable pub writes_piece : TextLent → ℕ → List ℕ → PieceOut
writes_piece l from out = piece_leaves (checked_piece l from (length out)) (piece_in l from (length out)) out
