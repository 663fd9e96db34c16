-- The results of two frames that differ only in the order of their corner lines (document 01, "Lists of passes, for demand 3"): "So, where the
-- runs agree, the two frames' results differ only in the corner numbers of their cell lines." Definitions only.
use Rattle.std.specs.Prelude.{◌≡◌, List, ◌++◌, ℕ, ◌<◌, get_or, Option, Some, None}
use Rattle.sizes.specs.Sizes.{place_count}
use Rattle.sheet.specs.Cells.{cell_of}
use Rattle.sheet.specs.Words.{label_of}
use Rattle.passes.specs.Run.{run}
use Rattle.role_counts.specs.RoleCounts.{RoledStats}
use Rattle.agreement.specs.Agreement.{FactorsAbove}
use Rattle.frame.specs.Frame.{Frame, read_frame, accepted}
use Rattle.frame.specs.ReadFrame.{sheet_of}
use Rattle.frame_laws.specs.Calls.{frame_corners, calls_of}
use Rattle.frame_agreement.specs.Reordering.{SameButOrder}
use Rattle.report_line.specs.Result.{pass_lines, role_lines, label_line, hole_line, ambiguous_line, all_places, heading, result_text}
use Rattle.frame_answer.specs.Answer.{frame_outcomes, frame_sheet, answer_text}

-- ---- a result with other corner numbers

-- the same label, its corner numbered anew
unfoldable pub numbered_anew : (ℕ → ℕ) → Option ℕ → Option ℕ
numbered_anew to None = None
numbered_anew to (Some k) = Some (to k)

-- the cell line of a place, its corner numbered anew
unfoldable pub cell_line_anew : (ℕ → ℕ) → List ℕ → ℕ → List ℕ
cell_line_anew to sheet p = label_line (cell_of p) (numbered_anew to (label_of (get_or sheet p 0)))

-- the result, the corners of its cell lines numbered anew, all else as in `result_text`
unfoldable pub renumbered_text : (ℕ → ℕ) → List RoledStats → List ℕ → List ℕ
renumbered_text to outcomes sheet =
    heading
    ++ (pass_lines outcomes
    ++ (role_lines outcomes ++ (all_places (cell_line_anew to sheet) ++ (all_places (hole_line sheet) ++ all_places (ambiguous_line sheet)))))

-- with every number kept it is the result itself
abbrev pub KeptNumbers : Type 0
KeptNumbers = (outcomes : List RoledStats) (sheet : List ℕ) → renumbered_text (λ k. k) outcomes sheet ≡ result_text outcomes sheet

-- ---- the claim

-- the numbers of the second frame for those of the first
abbrev pub numbers : {f f' : Frame} → SameButOrder f f' → ℕ → ℕ
numbers same = same.pairs.to

-- Equal pass lines, those of unmatched corners among them, and equal lines of the roles; at each place paired corners or none in both, and equal
-- lines of holes and ambiguous cells; so the second answer is the first with the corners of its cell lines numbered anew.
pub record ResultsAlike (text text' : List ℕ) (f f' : Frame) (same : SameButOrder f f') : Type 0 where
  pub outcomes : frame_outcomes f' ≡ frame_outcomes f
  pub roles : role_lines (frame_outcomes f') ≡ role_lines (frame_outcomes f)
  pub labels : (p : ℕ) → p < place_count → label_of (get_or (frame_sheet f') p 0) ≡ numbered_anew (numbers same) (label_of (get_or (frame_sheet f) p 0))
  pub holes : (p : ℕ) → p < place_count → hole_line (frame_sheet f') p ≡ hole_line (frame_sheet f) p
  pub ambiguous : (p : ℕ) → p < place_count → ambiguous_line (frame_sheet f') p ≡ ambiguous_line (frame_sheet f) p
  pub first_answer : answer_text text ≡ result_text (frame_outcomes f) (frame_sheet f)
  pub second_answer : answer_text text' ≡ renumbered_text (numbers same) (frame_outcomes f) (frame_sheet f)

-- any two accepted texts of such frames, each pass that runs with an ambiguity factor above 1
abbrev pub FramesAnswerAlike : Type 0
FramesAnswerAlike =
    (text text' : List ℕ) (f f' : Frame) → read_frame text ≡ accepted f → read_frame text' ≡ accepted f' → (same : SameButOrder f f')
    → FactorsAbove (calls_of f) (run (frame_corners f) (sheet_of f) (calls_of f)) → ResultsAlike text text' f f' same
