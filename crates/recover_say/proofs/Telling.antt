-- Piece by piece: which text is written next, what was said after one more, and that what a run holds says the answer to the text. Assumes nothing.
use mathlib.Core.Path.{◌≡◌, refl, sym, ap, ◌∙◌}
use mathlib.Core.List.{List}
use Prim.Native.Nat.{ℕ, zero, suc, ◌+◌, ◌<◌, ◌≤◌}
use native.Mathlib.Numerals.{add-one}
use native.Mathlib.Omega.{arith}
use lib.ListN.{length, take}
use Rattle.std.proofs.Common.{Result, Ok, Err}
use lib.Seq.{take_at}
use borrow.Author.Count.{below_more}
use Rattle.report_line.specs.Result.{Piece}
use Rattle.frame_answer.specs.Answer.{held_lines, held_piece, FewPasses, CanSay, Lent, Recovers, WrotePiece}
use Rattle.frame.specs.declared.FrameRefusal.{FrameRefusal}
use Rattle.frame_answer.specs.declared.Recovered.{Recovered}
use Rattle.report.specs.declared.lines.PieceEnd.{PieceEnd}
use Rattle.frame_answer.proofs.Saying.{says}
use Rattle.recover_say.specs.Said.{line_after, Told, held_from, piece_from, ToldOf, PieceText, SaidAs, said_of, Telling}
use Rattle.recover_say.specs.declared.Said.{Said}
use Rattle.recover_say.specs.declared.CutOff.{CutOff}

pub begun : (answer : Result Recovered FrameRefusal) (words sheet out : List ℕ) → 4096 ≡ length out → Telling answer words sheet out 0 0
unfolding line_after
begun answer words sheet out h = record { whole = h; reached = refl; behind = omega arith; few = omega arith; started = λ k l. absurd (omega (arith, l)) }

-- an answer that can be said has few passes
pub few_said : (answer : Result Recovered FrameRefusal) (words sheet : List ℕ) → CanSay answer words sheet → FewPasses answer
unfolding CanSay
few_said (Err e) words sheet h = tt
few_said (Ok r) words sheet h = h.few_passes

-- so it has few lines, empty ones included
pub few_lines : (answer : Result Recovered FrameRefusal) → FewPasses answer → held_lines answer ≤ 49172
unfolding held_lines
few_lines (Err e) h = omega arith
few_lines (Ok r) h = omega (arith, h)

module _ (answer : Result Recovered FrameRefusal) (words sheet : List ℕ) {out old new : List ℕ} {n from : ℕ} {piece : PieceEnd} (t : Telling answer words sheet out n from)
    (w : WrotePiece (held_piece answer words sheet from (length out)) old new piece) where
  -- the piece from the line that was reached, into the whole buffer
  this_piece : held_piece answer words sheet from (length out) ≡ held_from answer words sheet (line_after (held_from answer words sheet) n)
  this_piece = ap (held_piece answer words sheet from) (sym t.whole) ∙ ap (held_from answer words sheet) t.reached

  -- what stands at the front of the buffer is its text
  pub text_so : PieceText answer words sheet n (take piece.at new)
  text_so =
      ap (take piece.at) w.wrote.part
      ∙ take_at (held_piece answer words sheet from (length out)).text _ piece.at (sym w.wrote.count)
      ∙ ap (λ (p : Piece). p.text) this_piece

  pub one_more : from < held_lines answer → from < piece.next → 4096 ≡ length new → Telling answer words sheet new (n + 1) piece.next
  unfolding line_after
  one_more h later e =
      record {
        whole = e;
        reached = w.next_so ∙ ap (λ (p : Piece). p.next) this_piece ∙ rw add-one refl;
        behind = omega (arith, later, t.behind);
        few = omega (arith, t.behind, h);
        started = below_more (λ k. line_after (held_from answer words sheet) k < held_lines answer) n t.started (rw (← t.reached) h);
      }

pub told_of : (answer : Result Recovered FrameRefusal) (words sheet : List ℕ) {out : List ℕ} {r : Said} → Telling answer words sheet out r.pieces r.next → r.lines ≡ held_lines answer
    → ToldOf answer words sheet r
told_of answer words sheet t e = record { lines_so = e; next_so = t.reached; few = t.few; started = t.started }

-- the same pieces reach the same line
pub same_after : (f g : ℕ → Piece) → ((k : ℕ) → f k ≡ g k) → (n : ℕ) → line_after f n ≡ line_after g n
unfolding line_after
same_after f g e zero = refl
same_after f g e (suc n) = ap (λ (p : Piece). p.next) (e (line_after f n)) ∙ ap (λ (k : ℕ). (g k).next) (same_after f g e n)

pub told : (text : List ℕ) (before after : Lent) (answer : Result Recovered FrameRefusal) {r : Said} → Recovers text before after answer → ToldOf answer after.words after.frame.sheet r → Told text r
told text before after answer {r} w t =
    let s = says text before after answer w in
    let same : (n : ℕ) → line_after (held_from answer after.words after.frame.sheet) n ≡ line_after (piece_from text) n = same_after _ _ (λ k. s.piece_so k 4096) in
    record {
      lines_so = t.lines_so ∙ s.lines_so;
      next_so = t.next_so ∙ same r.pieces;
      few = omega (arith, t.few, s.lines_so);
      started = λ k h. omega (arith, t.started k h, same k, s.lines_so);
    }

-- the same whether all was said or it was cut off
pub told_as : (text : List ℕ) (before after : Lent) (answer : Result Recovered FrameRefusal) (r : Result Said CutOff) → Recovers text before after answer
    → SaidAs (ToldOf answer after.words after.frame.sheet) r → SaidAs (Told text) r
told_as text before after answer (Ok r) w s = (told text before after answer w s.0, s.1)
told_as text before after answer (Err e) w s = (told text before after answer w s.0, s.1)

pub said_so : (T : Said → Type 0) (r : Result Said CutOff) → SaidAs T r → T (said_of r)
said_so T (Ok r) s = s.0
said_so T (Err e) s = s.0
