-- The answer where others run what a dealer ran (document 02, 6/14): "A frame accepted with a dealer's line is accepted with a depot's or the plant's
-- in its place, with the same sheet, marks and pass lines." By 7/14 the lines of the roles say who ran them, and nothing else does. Definitions only.
use Rattle.std.specs.Prelude.{◌≡◌, List, ◌++◌, ℕ}
use mathlib.Core.List.{map}
use Rattle.frame.specs.Frame.{Frame, read_frame, accepted}
use Rattle.frame.specs.Text.{frame_text}
use Rattle.frame_laws.specs.Roles.{Raised}
use Rattle.report_line.specs.Result.{heading, pass_lines, role_lines, sheet_text}
use Rattle.frame_answer.specs.Answer.{frame_outcomes, frame_sheet, answer_text}

-- a result with some lines of the roles
abbrev pub with_roles : List ℕ → List ℕ → List ℕ → List ℕ
with_roles passes roles sheet = heading ++ (passes ++ (roles ++ sheet_text sheet))

-- the text is the frame's as it is printed, and that of the other one is accepted; its passes leave the same sheet with the same marks, and say the
-- same, so the pass lines are the same, those of unmatched corners among them; and the two results differ in the lines of the roles alone
pub record RaisedAnswer (text : List ℕ) (f g : Frame) : Type 0 where
  pub text_again : text ≡ frame_text f
  pub is_accepted : read_frame (frame_text g) ≡ accepted g
  pub sheet : frame_sheet g ≡ frame_sheet f
  pub stats : map (λ o. o.stats) (frame_outcomes g) ≡ map (λ o. o.stats) (frame_outcomes f)
  pub lines : pass_lines (frame_outcomes g) ≡ pass_lines (frame_outcomes f)
  pub answer : answer_text text ≡ with_roles (pass_lines (frame_outcomes f)) (role_lines (frame_outcomes f)) (frame_sheet f)
  pub raised_answer : answer_text (frame_text g) ≡ with_roles (pass_lines (frame_outcomes f)) (role_lines (frame_outcomes g)) (frame_sheet f)

-- for one dealer's line, and for any number of them
abbrev pub RaisedAnswers : Type 0
RaisedAnswers = (text : List ℕ) (f g : Frame) → read_frame text ≡ accepted f → Raised f g → RaisedAnswer text f g
