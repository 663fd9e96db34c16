-- The piece of a result is never refused where its words and sheet are fit to print. Assumes nothing.
use Rattle.std.specs.Prelude.{Result, Ok, Err, IsOk}
use mathlib.Core.Path.{◌≡◌, refl, ap, ◌∙◌}
use mathlib.Core.List.{List}
use Prim.Native.Nat.{ℕ, zero, suc, ◌*◌, ◌≤◌, ◌<◌}
use native.Mathlib.Omega.{arith}
use borrow.Author.Tests.{le-ltb}
use lib.ListN.{length, drop, length-append, length-drop}
use Rattle.refusal.specs.declared.Refusal.{Refusal}
use Rattle.arguments.specs.Arguments.{Checked}
use Rattle.labels.proofs.Below.{any_no}
use Rattle.line_form.specs.Written.{Wrote}
use Rattle.report_line.specs.Result.{Piece, result_piece, line_count}
use Rattle.report.specs.WriteResult.{text_lent, input_short, over_limit, wild, checked_piece, piece_in, PieceOut, piece_out, piece_leaves, writes_piece}
use Rattle.report_words.specs.Outcomes.{outcomes_in, wild_outcome}
use Rattle.report.specs.declared.lines.PieceEnd.{PieceEnd}
use Rattle.report.proofs.Laws.{piece_moves}
use Rattle.report_words.proofs.Outcomes.{outcomes_length}
use Rattle.arguments.specs.Front.{over}
use Rattle.report_line.specs.Refused.{refused_text}
use Rattle.frame_answer.specs.Answer.{refused_piece, Printable, WrotePiece, Moves}

module _ (corners passes : ℕ) (words sheet : List ℕ) (p : Printable corners passes words sheet) (from : ℕ) (below : from < line_count passes) (out : List ℕ) (room : 128 ≤ length out) where
  fine : checked_piece (text_lent corners passes words sheet) from (length out) ≡ Ok tt
  unfolding checked_piece input_short over_limit wild
  fine =
      rw (
        le-ltb (length words) (12 * passes) p.words_long,
        le-ltb (length sheet) 16384 p.sheet_long,
        le-ltb (length out) 128 room,
        le-ltb 16 passes p.few_passes,
        le-ltb 1024 corners p.few_corners,
        any_no (wild_outcome words) passes p.tame,
        le-ltb (line_count passes) from (omega (arith, below)),
        p.known,
        p.once,
      ) refl

  abbrev held : Piece
  held = result_piece (outcomes_in passes words) sheet from (length out)

  leaves : writes_piece (text_lent corners passes words sheet) from out ≡ piece_out (Ok (record { at = length held.text; next = held.next })) (over held.text out)
  unfolding writes_piece
  leaves = ap (λ (k : Checked). piece_leaves k (piece_in (text_lent corners passes words sheet) from (length out)) out) fine

  pub wrote_piece : {end : PieceEnd} {out' : List ℕ} → piece_out (Ok end) out' ≡ writes_piece (text_lent corners passes words sheet) from out
      → WrotePiece held out out' end
  wrote_piece {end} e =
      let w = e ∙ leaves in
      let a : ◌≡◌ {A = Result PieceEnd Refusal} (Ok end) (Ok (record { at = length held.text; next = held.next })) = ap (λ (o : PieceOut). o.answer) w in
      let same : end ≡ record { at = length held.text; next = held.next } = cc in
      let counts : end.at ≡ length held.text = ap (λ (p : PieceEnd). p.at) same in
      let nexts : end.next ≡ held.next = ap (λ (p : PieceEnd). p.next) same in
      record { wrote = record { count = counts; part = ap (λ (o : PieceOut). o.out) w }; next_so = nexts }

  pub not_refused : (x : Result PieceEnd Refusal) {out' : List ℕ} → piece_out x out' ≡ writes_piece (text_lent corners passes words sheet) from out → IsOk x
  not_refused (Ok end) e = refl
  not_refused (Err r) e =
      let a : ◌≡◌ {A = Result PieceEnd Refusal} (Err r) (Ok (record { at = length held.text; next = held.next })) = ap (λ (o : PieceOut). o.answer) (e ∙ leaves) in
      absurd (cc)

-- what was written to the front of a buffer that kept its length has room in it
pub room_for : {text old new : List ℕ} {n : ℕ} → Wrote text old new n → length new ≡ length old → n ≤ length old
room_for {text} {old} {new} {n} w e = omega (arith, w.count, e, ap length w.part, length-append text (drop (length text) old), length-drop (length text) old)

-- a piece of a result goes on by a line at least
pub moves_result : (passes : ℕ) (words sheet : List ℕ) {old new : List ℕ} {from : ℕ} {r : PieceEnd} → from < line_count passes → 128 ≤ length old
    → WrotePiece (result_piece (outcomes_in passes words) sheet from (length old)) old new r → length new ≡ length old → Moves from (length old) r
moves_result passes words sheet {old} {from = from} below room w e =
    record {
      in_room = room_for w.wrote e;
      later =
          let m = piece_moves (outcomes_in passes words) sheet from (length old) (rw (outcomes_length words 0 passes) below) room in
          omega (arith, m, w.next_so);
    }

-- a refusal has one piece, from line 0 on
pub wrote_refused : (r : Refusal) (line from : ℕ) {n : ℕ} {out out' : List ℕ} → from < 1 → Wrote (refused_text r line) out out' n
    → WrotePiece (refused_piece from (refused_text r line)) out out' (record { at = n; next = 1 })
wrote_refused r line zero h w = record { wrote = w; next_so = refl }
wrote_refused r line (suc k) h w = absurd (omega arith)
