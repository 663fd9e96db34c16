-- What the calls that write a result's text answer says what is due: by the equation for answer and buffer. Assumes nothing.
use Rattle.std.specs.Prelude.{Ok, Err}
use mathlib.Core.Path.{◌≡◌, refl, ap, ◌∙◌}
use mathlib.Core.List.{List, [], ◌∷◌}
use Prim.Native.Nat.{ℕ}
use lib.ListN.{length}
use Rattle.refusal.specs.Said.{whole}
use Rattle.report_line.specs.Result.{Piece}
use Rattle.report.specs.WriteResult.{TextLent, text_of, checked_text, TextOut, text_leaves, writes_text, piece_in, checked_piece, PieceOut, piece_leaves, writes_piece}
use Rattle.report.specs.Said.{text_said, piece_said, checked_due, text_due, piece_values, piece_due}
use Rattle.arguments.specs.Arguments.{Checked}

module _ (l : TextLent) where
  -- ---- the whole text

  module _ (out : List ℕ) where
    text_leaves_lem : (c : Checked) → text_said (text_leaves c l out).answer ≡ checked_due c (whole (length (text_of l)) ∷ [])
    unfolding text_said checked_due
    text_leaves_lem (Err r) = refl
    text_leaves_lem (Ok tt) = refl

    text_said_lem : (t : TextOut) → t ≡ writes_text l out → text_said t.answer ≡ text_due l out
    unfolding writes_text text_due
    text_said_lem t e = ap (λ (w : TextOut). text_said w.answer) e ∙ text_leaves_lem (checked_text l (length out))

    -- both promises of `write_result` at once
    pub text_promised : {t : TextOut} → t ≡ writes_text l out → (t ≡ writes_text l out) × (text_said t.answer ≡ text_due l out)
    text_promised e = (e, text_said_lem _ e)

  -- ---- a piece

  module _ (from : ℕ) (out : List ℕ) where
    piece_leaves_lem : (c : Checked) (p : Piece) → piece_said (piece_leaves c p out).answer ≡ checked_due c (piece_values p)
    unfolding piece_said checked_due
    piece_leaves_lem (Err r) p = refl
    piece_leaves_lem (Ok tt) p = refl

    piece_said_lem : (t : PieceOut) → t ≡ writes_piece l from out → piece_said t.answer ≡ piece_due l from out
    unfolding writes_piece piece_due
    piece_said_lem t e = ap (λ (w : PieceOut). piece_said w.answer) e ∙ piece_leaves_lem (checked_piece l from (length out)) (piece_in l from (length out))

    -- both promises of `write_result_piece` at once
    pub piece_promised : {t : PieceOut} → t ≡ writes_piece l from out → (t ≡ writes_piece l from out) × (piece_said t.answer ≡ piece_due l from out)
    piece_promised e = (e, piece_said_lem _ e)
