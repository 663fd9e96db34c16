-- The pieces of an answer, joined, are the answer. Assumes nothing.
use mathlib.Core.Path.{◌≡◌, refl, sym, ap, ◌∙◌}
use mathlib.Core.Bool.{Bool, true, false}
use mathlib.Core.List.{List, [], ◌++◌, append-nil}
use Prim.Native.Nat.{ℕ, zero, suc, ◌+◌, ◌-◌, ◌<◌, ◌≤◌}
use native.Mathlib.Omega.{arith}
use borrow.Author.Tests.{ltb-true, ltb-false}
use lib.Dec.{ltb}
use lib.ListN.{length}
use Rattle.refusal.specs.declared.Refusal.{Refusal}
use Rattle.role_counts.specs.RoleCounts.{RoledStats}
use Rattle.frame.specs.Frame.{Frame, FrameRead, refused_at, accepted, read_frame}
use Rattle.report_line.specs.Result.{lines_from, result_line, line_count, result_from, result_piece}
use Rattle.report.proofs.Laws.{from_the_start, piece_joins, piece_moves}
use Rattle.report_line.specs.Refused.{refused_text}
use Rattle.frame_answer.specs.Answer.{frame_outcomes, frame_sheet, answer_of, answer_text, answer_lines, answer_piece, go_on, pieces_from, joined, pieces, PiecesJoin}

-- behind the last line there is no text
nothing_left : (outcomes : List RoledStats) (sheet : List ℕ) (k : ℕ) → line_count (length outcomes) ≤ k → result_from outcomes sheet k ≡ []
unfolding result_from lines_from
nothing_left outcomes sheet k h = ap (lines_from (result_line outcomes sheet) k) none
  where
    none : line_count (length outcomes) - k ≡ 0
    none = omega arith

-- the pieces of a result from line k on: each goes on by a line at least, so as many as there are lines are enough
module _ (f : Frame) (room : ℕ) (big : 128 ≤ room) where
  from_line : (n k : ℕ) → line_count (length (frame_outcomes f)) ≤ k + n → joined (pieces_from (accepted f) room n k) ≡ result_from (frame_outcomes f) (frame_sheet f) k
  unfolding pieces_from joined answer_piece answer_lines
  from_line zero k h = sym (nothing_left (frame_outcomes f) (frame_sheet f) k (omega (arith, h)))
  from_line (suc n) k h = go (ltb k (line_count (length (frame_outcomes f)))) refl (λ next m. from_line n next m)
    where
      go : (t : Bool) → ltb k (line_count (length (frame_outcomes f))) ≡ t
          → ((next : ℕ) → line_count (length (frame_outcomes f)) ≤ next + n → joined (pieces_from (accepted f) room n next) ≡ result_from (frame_outcomes f) (frame_sheet f) next)
          → joined (go_on t (result_piece (frame_outcomes f) (frame_sheet f) k room).text (pieces_from (accepted f) room n (result_piece (frame_outcomes f) (frame_sheet f) k room).next))
          ≡ result_from (frame_outcomes f) (frame_sheet f) k
      go true e w =
          let next = (result_piece (frame_outcomes f) (frame_sheet f) k room).next in
          let on : k < next = piece_moves (frame_outcomes f) (frame_sheet f) k room (ltb-true k _ e) big in
          ap (λ (r : List ℕ). (result_piece (frame_outcomes f) (frame_sheet f) k room).text ++ r) (w next (omega (arith, on, h)))
          ∙ piece_joins (frame_outcomes f) (frame_sheet f) k room (result_piece (frame_outcomes f) (frame_sheet f) k room) refl
      go false e w = sym (nothing_left (frame_outcomes f) (frame_sheet f) k (ltb-false k _ e))

one_piece : (r : Refusal) (line room : ℕ) → joined (pieces_from (refused_at r line) room 1 0) ≡ refused_text r line
unfolding pieces_from joined answer_piece answer_lines
one_piece r line room = append-nil (refused_text r line)

pub pieces_join : PiecesJoin
unfolding pieces answer_text answer_of answer_lines
pieces_join text room big = go (read_frame text)
  where
    go : (a : FrameRead) → joined (pieces_from a room (answer_lines a) 0) ≡ answer_of a
    go (refused_at r line) = one_piece r line room
    go (accepted f) = from_line f room big (line_count (length (frame_outcomes f))) 0 (omega arith) ∙ from_the_start (frame_outcomes f) (frame_sheet f)
