-- The pieces that were written are the front of the answer, and all of it where the line after them is past the last. Assumes nothing.
use mathlib.Core.Path.{◌≡◌, refl, sym, ap, ◌∙◌}
use mathlib.Core.Bool.{Bool}
use mathlib.Core.List.{List, [], ◌++◌, append_assoc, append-nil}
use Prim.Native.Nat.{ℕ, zero, suc, ◌+◌, ◌-◌, ◌<◌, ◌≤◌}
use native.Mathlib.Omega.{arith}
use borrow.Author.Tests.{lt-ltb, le-ltb}
use Rattle.frame.specs.Frame.{FrameRead, read_frame}
use Rattle.frame_answer.specs.Answer.{answer_lines, answer_piece, answer_text, go_on, pieces_from, joined, pieces}
use Rattle.frame_answer.proofs.Pieces.{pieces_join}
use Rattle.recover_say.specs.Said.{line_after, text_after, piece_from, Told, Prints, ToldPrints}
use Rattle.recover_say.specs.declared.Said.{Said}

module _ (a : FrameRead) where
  -- behind the last line there is no piece
  none_left : (n k : ℕ) → answer_lines a ≤ k → joined (pieces_from a 4096 n k) ≡ []
  unfolding pieces_from joined
  none_left zero k h = refl
  none_left (suc n) k h = rw (le-ltb k (answer_lines a) h) refl

  -- n pieces, and those from the line after them on
  parted : (n m : ℕ) → ((k : ℕ) → k < n → line_after (λ i. answer_piece a i 4096) k < answer_lines a)
      → joined (pieces_from a 4096 (n + m) 0) ≡ text_after (λ i. answer_piece a i 4096) n ++ joined (pieces_from a 4096 m (line_after (λ i. answer_piece a i 4096) n))
  unfolding pieces_from joined line_after text_after
  parted zero m h =
      let e : 0 + m ≡ m = omega arith in
      ap (λ (j : ℕ). joined (pieces_from a 4096 j 0)) e
  parted (suc n) m h =
      let k = line_after (λ i. answer_piece a i 4096) n in
      let front = text_after (λ i. answer_piece a i 4096) n in
      let e : suc n + m ≡ n + suc m = omega arith in
      ap (λ (j : ℕ). joined (pieces_from a 4096 j 0)) e
      ∙ parted n (suc m) (λ i l. h i (omega (arith, l)))
      ∙ ap (λ (t : Bool). front ++ joined (go_on t (answer_piece a k 4096).text (pieces_from a 4096 m (answer_piece a k 4096).next))) (lt-ltb k (answer_lines a) (h n (omega arith)))
      ∙ sym (append_assoc front (answer_piece a k 4096).text _)

pub told_prints : ToldPrints
unfolding pieces
told_prints text r t =
    let a = read_frame text in
    let left = answer_lines a - r.pieces in
    let e : r.pieces + left ≡ answer_lines a = omega (arith, t.few) in
    let front : text_after (piece_from text) r.pieces ++ joined (pieces_from a 4096 left r.next) ≡ answer_text text =
    rw t.next_so (sym (parted a r.pieces left t.started) ∙ ap (λ (n : ℕ). joined (pieces_from a 4096 n 0)) e ∙ pieces_join text 4096 (omega arith))
    in
    let nothing : r.lines ≤ r.next → joined (pieces_from a 4096 left r.next) ≡ [] = λ h. none_left a left r.next (omega (arith, h, t.lines_so)) in
    record {
      rest = joined (pieces_from a 4096 left r.next);
      front = front;
      whole = λ h. sym (append-nil _) ∙ ap (λ (l : List ℕ). text_after (piece_from text) r.pieces ++ l) (sym (nothing h)) ∙ front;
    }
