-- What the answers of the calls that write a result's text say, in document 01's numbers and values. Definitions only.
use Rattle.std.specs.Prelude.{List, [], ◌∷◌, ℕ, length, Ok, Err}
use Rattle.refusal.specs.Refusal.{number_of}
use Rattle.refusal.specs.Said.{Value, whole, Said, number, values}
use Rattle.report_line.specs.Result.{Piece}
use Rattle.report.specs.WriteResult.{TextAnswer, PieceAnswer, TextLent, text_of, checked_text, piece_in, checked_piece}
use Rattle.arguments.specs.Arguments.{Checked}

-- ---- each answer by its cases

-- of a text its length in bytes
unfoldable pub text_said : TextAnswer → Said
text_said (Err r) = number (number_of r)
text_said (Ok bytes) = values (whole bytes ∷ [])

-- of a piece its length in bytes, and the next line
unfoldable pub piece_said : PieceAnswer → Said
piece_said (Err r) = number (number_of r)
piece_said (Ok end) = values (whole end.at ∷ whole end.next ∷ [])

-- ---- what an answer is due to say: the number of the refusal that the check of what is lent gives, or values

unfoldable pub checked_due : Checked → List Value → Said
checked_due (Err r) vs = number (number_of r)
checked_due (Ok tt) vs = values vs

unfoldable pub text_due : TextLent → List ℕ → Said
text_due l out = checked_due (checked_text l (length out)) (whole (length (text_of l)) ∷ [])

abbrev pub piece_values : Piece → List Value
piece_values p = whole (length p.text) ∷ whole p.next ∷ []

unfoldable pub piece_due : TextLent → ℕ → List ℕ → Said
piece_due l from out = checked_due (checked_piece l from (length out)) (piece_values (piece_in l from (length out)))
