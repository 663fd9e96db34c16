-- What a writer took of a text, of pieces and of an answer. Assumes nothing.
use Rattle.std.proofs.Common.{Result, ◌≡◌, ℕ, zero, suc, ◌+◌, ◌-◌, ◌<◌, ◌≤◌, List, [], ◌++◌, append_assoc, append-nil, false, Option, arith, add-one, refl, sym, ap, ◌∙◌, subst, length, take, drop, length-drop, take_all, take-append-drop, ⊎_elim}
use Rattle.std.proofs.lemmas.Bool.{cases_lt}
use lib.Seq.{take-add}
use Rattle.std.specs.Io.KnownBytes.{Appends}
use Rattle.std.proofs.KnownBytes.{Appends-nil, Appends-trans}
use borrow.Author.Count.{below_more}
use Rattle.frame.specs.Frame.{read_frame}
use Rattle.report_line.specs.Result.{Piece}
use Rattle.frame_answer.specs.Answer.{answer_lines, answer_text, Lent, Recovers}
use Rattle.frame.specs.declared.FrameRefusal.{FrameRefusal}
use Rattle.frame_answer.specs.declared.Recovered.{Recovered}
use Rattle.frame_answer.proofs.Saying.{says}
use Rattle.recover_say.specs.Said.{line_after, text_after, Told, piece_from, held_from, WroteText, WroteOf, WroteAnswer}
use Rattle.recover_say.specs.declared.Said.{Said}
use Rattle.recover_say.proofs.Telling.{same_after}
use Rattle.recover_say.proofs.Printing.{told_prints}

-- ---- a text

-- a front part of a text, and of the rest of it one more
pub one_part : (text front rest : List ℕ) (n : ℕ) → front ++ rest ≡ text → n ≤ length rest → (front ++ take n rest) ++ take (length rest - n) (drop n rest) ≡ text
one_part text front rest n e h =
    append_assoc front (take n rest) _ ∙ ap (λ (xs : List ℕ). front ++ (take n rest ++ xs)) (take_all (length rest - n) (drop n rest) (omega (arith, length-drop n rest)))
    ∙ ap (λ (xs : List ℕ). front ++ xs) (take-append-drop n rest) ∙ e

-- ---- pieces

text_more : (piece : ℕ → Piece) (n : ℕ) → text_after piece (n + 1) ≡ text_after piece n ++ (piece (line_after piece n)).text
unfolding text_after
text_more piece n = rw add-one refl

-- none at first
pub no_piece : (a : Option (List ℕ)) (piece : ℕ → Piece) → Appends a a (text_after piece 0)
unfolding text_after
no_piece a piece = Appends-nil a

module _ (a b c : Option (List ℕ)) (piece : ℕ → Piece) where
  -- one more was written
  pub wrote_more : (n : ℕ) (text : List ℕ) → text ≡ (piece (line_after piece n)).text → Appends a b (text_after piece n) → Appends b c text → Appends a c (text_after piece (n + 1))
  wrote_more n text is before now =
      subst (Appends a c) (ap (λ xs. text_after piece n ++ xs) is ∙ sym (text_more piece n)) (Appends-trans a b c _ _ before now)

  -- one could not be
  pub wrote_part : (r : Said) (text : List ℕ) → text ≡ (piece (line_after piece r.pieces)).text → Appends a b (text_after piece r.pieces) → WroteText b c text false
      → r.next < r.lines → r.pieces < r.lines → WroteOf a c piece r
  wrote_part r text is before w left few =
      record {
        part = w.0;
        rest = w.1;
        taken = Appends-trans a b c _ _ before w.3;
        nothing = λ l. absurd (omega (arith, l, left));
        of_next = λ l. (few, w.2 ∙ is);
      }

-- all were
pub wrote_all : (a b : Option (List ℕ)) (piece : ℕ → Piece) (r : Said) → Appends a b (text_after piece r.pieces) → r.lines ≤ r.next → WroteOf a b piece r
wrote_all a b piece r h past =
    record {
      part = [];
      rest = [];
      taken = subst (Appends a b) (sym (append-nil (text_after piece r.pieces))) h;
      nothing = λ l. refl;
      of_next = λ l. absurd (omega (arith, l, past));
    }

-- ---- an answer

-- the same pieces have the same texts
module _ (f g : ℕ → Piece) (e : (k : ℕ) → f k ≡ g k) where
  same_text : (n : ℕ) → text_after f n ≡ text_after g n
  unfolding text_after
  same_text zero = refl
  same_text (suc n) = ap (λ (t : List ℕ). t ++ (f (line_after f n)).text) (same_text n) ∙ ap (λ (p : Piece). text_after g n ++ p.text) (e (line_after f n) ∙ ap g (same_after f g e n))

  same_wrote : (a b : Option (List ℕ)) (r : Said) → WroteOf a b f r → WroteOf a b g r
  same_wrote a b r w =
      record {
        part = w.part;
        rest = w.rest;
        taken = subst (λ (t : List ℕ). Appends a b (t ++ w.part)) (same_text r.pieces) w.taken;
        nothing = w.nothing;
        of_next = λ l. ((w.of_next l).0, (w.of_next l).1 ∙ ap (λ (p : Piece). p.text) (e (line_after f r.pieces) ∙ ap g (same_after f g e r.pieces)));
      }

module _ (text : List ℕ) (a b : Option (List ℕ)) (r : Said) (t : Told text r) (w : WroteOf a b (piece_from text) r) where
  all_of : r.lines ≤ r.next → WroteAnswer a b text r
  all_of past =
      let whole : text_after (piece_from text) r.pieces ++ w.part ≡ answer_text text =
      ap (λ (xs : List ℕ). text_after (piece_from text) r.pieces ++ xs) (w.nothing past) ∙ append-nil (text_after (piece_from text) r.pieces) ∙ (told_prints text r t).whole past
      in
      record { part = text_after (piece_from text) r.pieces ++ w.part; rest = []; taken = w.taken; front = append-nil (text_after (piece_from text) r.pieces ++ w.part) ∙ whole; whole = λ l. whole }

  -- the answer as far as the piece that could not be written
  one_further : r.next < r.lines → Told text (record { pieces = r.pieces + 1; next = line_after (piece_from text) (r.pieces + 1); lines = r.lines })
  one_further left =
      record {
        lines_so = t.lines_so;
        next_so = refl;
        few = omega (arith, t.lines_so, (w.of_next left).0);
        started = below_more (λ k. line_after (piece_from text) k < answer_lines (read_frame text)) r.pieces t.started (omega (arith, t.next_so, t.lines_so, left));
      }

  part_of : r.next < r.lines → WroteAnswer a b text r
  part_of left =
      let piece = piece_from text in
      let said = text_after piece r.pieces in
      let further = told_prints text _ (one_further left) in
      record {
        part = said ++ w.part;
        rest = w.rest ++ further.rest;
        taken = w.taken;
        front =
            append_assoc said w.part (w.rest ++ further.rest)
            ∙ ap (λ (xs : List ℕ). said ++ xs) (sym (append_assoc w.part w.rest further.rest) ∙ ap (λ (xs : List ℕ). xs ++ further.rest) (w.of_next left).1)
            ∙ sym (append_assoc said (piece (line_after piece r.pieces)).text further.rest)
            ∙ ap (λ (xs : List ℕ). xs ++ further.rest) (sym (text_more piece r.pieces))
            ∙ further.front;
        whole = λ l. absurd (omega (arith, l, left));
      }

  pub wrote_answer : WroteAnswer a b text r
  wrote_answer = ⊎_elim part_of all_of (cases_lt r.next r.lines)

pub wrote : (text : List ℕ) (before after : Lent) (answer : Result Recovered FrameRefusal) (a b : Option (List ℕ)) (r : Said) → Recovers text before after answer → Told text r
    → WroteOf a b (held_from answer after.words after.frame.sheet) r → WroteAnswer a b text r
wrote text before after answer a b r w t h =
    let s = says text before after answer w in
    wrote_answer text a b r t (same_wrote _ _ (λ k. s.piece_so k 4096) a b r h)
