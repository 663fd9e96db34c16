-- What the two calls answer and leave, by what the check of what they are lent says. Assumes nothing.
use Rattle.std.specs.Prelude.{Ok, Err}
use mathlib.Core.Path.{◌≡◌, sym, ap, ap₂, ◌∙◌}
use mathlib.Core.Bool.{false, ◌||◌}
use mathlib.Core.List.{List}
use Prim.Native.Nat.{ℕ}
use borrow.Author.Tests.{ltb-false}
use lib.Dec.{ltb}
use lib.ListN.{length}
use Rattle.refusal.specs.declared.Refusal.{Refusal}
use Rattle.arguments.proofs.Chains.{or_false_both, not_refused}
use Rattle.line_form.specs.Written.{Wrote}
use Rattle.report_line.specs.Result.{line_count, Piece}
use Rattle.arguments.specs.Front.{over}
use Rattle.report.specs.WriteResult.{TextLent, text_of, input_short, over_limit, wild, checked_rest, checked_text, TextOut, text_out, text_leaves, writes_text, piece_in, checked_piece, PieceOut, piece_out, piece_leaves, writes_piece}
use Rattle.report_words.specs.Outcomes.{outcomes_in}
use Rattle.report.specs.Said.{text_said, text_due, piece_said, piece_due}
use Rattle.report.specs.Asked.{Sound, text_from, piece_from, AllAsked, SomeAsked, WrotePiece}
use Rattle.report.specs.declared.lines.PieceEnd.{PieceEnd}
use Rattle.report.proofs.Laws.{from_the_start}
use Rattle.report.proofs.Short.{all_tame}
use Rattle.report.proofs.Checking.{all_lent}
use Rattle.report.proofs.Said.{text_promised, piece_promised}
use Rattle.arguments.specs.Arguments.{Checked}

module _ (l : TextLent) where
  sound : input_short l ≡ false → over_limit l ≡ false → wild l ≡ false → Sound l.passes l.words l.sheet
  unfolding over_limit
  sound a c b = record { all = all_lent l a; few = ltb-false 16 l.passes (or_false_both (ltb 16 l.passes) _ c).0; tame = all_tame l b }

  same_text : text_from l.passes l.words l.sheet 0 ≡ text_of l
  unfolding text_from
  same_text = from_the_start (outcomes_in l.passes l.words) l.sheet

  -- ---- the whole text

  module _ (out : List ℕ) where
    pub text_asked : checked_text l (length out) ≡ Ok tt → AllAsked l.passes l.words l.sheet out
    unfolding checked_text checked_rest
    text_asked e =
        let seven = not_refused (input_short l || ltb (length out) (length (text_of l))) _ _ e in
        let short = or_false_both (input_short l) _ seven.0 in
        let two = not_refused (over_limit l) _ _ seven.1 in
        let three = not_refused (wild l) _ _ two.1 in
        record { sound = sound short.0 two.0 three.0; room = rw same_text (ltb-false (length out) (length (text_of l)) short.1) }

    -- what the call promises
    abbrev TextPromised : TextOut → Type 0
    TextPromised t = (t ≡ writes_text l out) × (text_said t.answer ≡ text_due l out)

    pub text_refused : (r : Refusal) → checked_text l (length out) ≡ Err r → TextPromised (text_out (Err r) out)
    unfolding writes_text
    text_refused r e = text_promised l out (sym (ap (λ (c : Checked). text_leaves c l out) e))

    pub text_written_lem : (n : ℕ) (new : List ℕ) → checked_text l (length out) ≡ Ok tt → Wrote (text_from l.passes l.words l.sheet 0) out new n
        → TextPromised (text_out (Ok n) new)
    unfolding writes_text
    text_written_lem n new e w =
        text_promised l out
        (ap₂ (λ (m : ℕ) (b : List ℕ). text_out (Ok m) b) (w.count ∙ ap length same_text) (w.part ∙ ap (λ (t : List ℕ). over t out) same_text)
        ∙ sym (ap (λ (c : Checked). text_leaves c l out) e))

  -- ---- a piece

  module _ (from : ℕ) (out : List ℕ) where
    pub piece_asked : checked_piece l from (length out) ≡ Ok tt → SomeAsked l.passes l.words l.sheet from
    unfolding checked_piece
    piece_asked e =
        let seven = not_refused (input_short l || ltb (length out) 128) _ _ e in
        let short = or_false_both (input_short l) _ seven.0 in
        let two = not_refused (over_limit l) _ _ seven.1 in
        let three = not_refused (wild l || ltb (line_count l.passes) from) _ _ two.1 in
        let range = or_false_both (wild l) _ three.0 in
        record { sound = sound short.0 two.0 range.0; upto = ltb-false (line_count l.passes) from range.1 }

    -- what the call promises
    abbrev PiecePromised : PieceOut → Type 0
    PiecePromised t = (t ≡ writes_piece l from out) × (piece_said t.answer ≡ piece_due l from out)

    pub piece_refused : (r : Refusal) → checked_piece l from (length out) ≡ Err r → PiecePromised (piece_out (Err r) out)
    unfolding writes_piece
    piece_refused r e = piece_promised l from out (sym (ap (λ (c : Checked). piece_leaves c (piece_in l from (length out)) out) e))

    pub piece_written_lem : (r : PieceEnd) (new : List ℕ) → checked_piece l from (length out) ≡ Ok tt
        → WrotePiece (piece_from l.passes l.words l.sheet from (length out)) out new r → PiecePromised (piece_out (Ok r) new)
    unfolding writes_piece piece_from
    piece_written_lem r new e w =
        piece_promised l from out
        (leaves r.at r.next (piece_in l from (length out)) w.wrote w.next
        ∙ sym (ap (λ (c : Checked). piece_leaves c (piece_in l from (length out)) out) e))
      where
        leaves : (n next : ℕ) (p : Piece) → Wrote p.text out new n → next ≡ p.next
            → piece_out (Ok (record { at = n; next = next })) new ≡ piece_out (Ok (record { at = length p.text; next = p.next })) (over p.text out)
        leaves n next p w e = rw (w.count, e, w.part)
