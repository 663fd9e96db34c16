-- The answer of a frame with a depot's or the plant's line in place of any number of a dealer's. Assumes nothing.
use mathlib.Core.Path.{◌≡◌, refl, sym, ap, ap₂, ◌∙◌}
use mathlib.Core.List.{List, [], ◌∷◌, ◌++◌, map}
use Prim.Native.Nat.{ℕ}
use native.Mathlib.Omega.{arith}
use lib.ListN.{length, length-map}
use Rattle.frame.specs.Frame.{Frame, RoledPass, parts_of}
use Rattle.frame.specs.ReadFrame.{sheet_of}
use Rattle.passes.specs.Outcome.{Outcome, refused, done}
use Rattle.passes.specs.Run.{Call, run}
use Rattle.passes.specs.declared.PassStats.{PassStats}
use Rattle.role_counts.specs.RoleCounts.{RoledStats}
use Rattle.frame_laws.specs.Calls.{frame_corners, call_of, calls_of}
use Rattle.frame_laws.specs.Roles.{RaisedStarts}
use Rattle.frame_laws.proofs.Back.{frame_prints_back}
use Rattle.frame_laws.proofs.Raised.{raised_accepted}
use Rattle.report_line.specs.Result.{pass_line, pass_lines, role_lines, result_text}
use Rattle.frame_answer.specs.Answer.{outcomes_of, frame_outcomes, frame_sheet, answer_of, answer_text}
use Rattle.frame_answer.specs.Raised.{with_roles, RaisedAnswers}

-- ---- what passes say, whoever ran them

abbrev stats_in : List RoledStats → List PassStats
stats_in = map (λ o. o.stats)

same_said : (ps qs : List RoledPass) (os : List (Outcome PassStats)) → length ps ≡ length qs → stats_in (outcomes_of ps os) ≡ stats_in (outcomes_of qs os)
unfolding outcomes_of
same_said [] [] os e = refl
same_said [] (q ∷ qs) os e = absurd (omega (arith, e))
same_said (p ∷ ps) [] os e = absurd (omega (arith, e))
same_said (p ∷ ps) (q ∷ qs) [] e = refl
same_said (p ∷ ps) (q ∷ qs) (refused r ∷ os) e = same_said ps qs os (omega (arith, e))
same_said (p ∷ ps) (q ∷ qs) (done a ∷ os) e = ap (λ (l : List PassStats). a.answer ∷ l) (same_said ps qs os (omega (arith, e)))

-- the pass lines are of what the passes say alone
unfoldable lines_of : List PassStats → List ℕ
lines_of [] = []
lines_of (s ∷ ss) = pass_line s ++ lines_of ss

by_stats : (os : List RoledStats) → pass_lines os ≡ lines_of (stats_in os)
unfolding pass_lines lines_of
by_stats [] = refl
by_stats (o ∷ os) = ap (λ (l : List ℕ). pass_line o.stats ++ l) (by_stats os)

-- ---- two frames, the roles of one raised

module _ (f g : Frame) (s : RaisedStarts f g) where
  as_many : length (parts_of g).passes ≡ length (parts_of f).passes
  unfolding calls_of
  as_many =
      sym (length-map (parts_of g).passes (λ q. call_of g q.pass))
      ∙ ap (λ (cs : List Call). length cs) s.calls
      ∙ length-map (parts_of f).passes (λ q. call_of f q.pass)

  same_stats : stats_in (frame_outcomes g) ≡ stats_in (frame_outcomes f)
  unfolding frame_outcomes
  same_stats = rw (s.corners, s.sheet, s.calls) (same_said (parts_of g).passes (parts_of f).passes (run (frame_corners f) (sheet_of f) (calls_of f)) as_many)

  same_sheet : frame_sheet g ≡ frame_sheet f
  unfolding frame_sheet
  same_sheet = rw (s.corners, s.sheet, s.calls) refl

  same_lines : pass_lines (frame_outcomes g) ≡ pass_lines (frame_outcomes f)
  same_lines = by_stats (frame_outcomes g) ∙ ap lines_of same_stats ∙ sym (by_stats (frame_outcomes f))

-- "A frame accepted with a dealer's line is accepted with a depot's or the plant's in its place, with the same sheet, marks and pass lines."
pub raised_answers : RaisedAnswers
unfolding answer_text answer_of result_text
raised_answers text f g e r =
    let s = raised_accepted text f g e r in
    record {
      text_again = (frame_prints_back text f e).text_again;
      is_accepted = s.is_accepted;
      sheet = same_sheet f g s;
      stats = same_stats f g s;
      lines = same_lines f g s;
      answer = ap answer_of e;
      raised_answer =
          ap answer_of s.is_accepted
          ∙ ap₂ (λ (passes sheet : List ℕ). with_roles passes (role_lines (frame_outcomes g)) sheet) (same_lines f g s) (same_sheet f g s);
    }
