-- The lines of the roles in every result (document 02, 7/14): "Keep attached, no-candidate, ambiguous and edge counts for each of the three roles
-- too, each the sum over the passes run under it", and where they stand. Definitions only.
use Rattle.std.specs.Prelude.{◌≡◌, List, [], ◌∷◌, ◌++◌, ℕ, length}
use mathlib.Core.List.{map}
use Rattle.refusal.specs.declared.Refusal.{Refusal}
use Rattle.roles.specs.declared.Role.{Role}
use Rattle.passes.specs.Outcome.{Outcome, refused, done}
use Rattle.passes.specs.Run.{run}
use Rattle.passes.specs.declared.PassStats.{PassStats}
use Rattle.role_counts.specs.RoleCounts.{RoledStats, sum_for, AtMost}
use Rattle.line_form.specs.Forms.{bytes}
use Rattle.frame.specs.Frame.{Frame, parts_of, refused_at, accepted, read_frame}
use Rattle.frame.specs.ReadFrame.{sheet_of}
use Rattle.frame_laws.specs.Calls.{frame_corners, calls_of}
use Rattle.report_line.specs.Refused.{refused_text}
use Rattle.report_line.specs.Result.{pass_lines, line_of_role, heading, sheet_text}
use Rattle.frame_answer.specs.Answer.{frame_outcomes, frame_sheet, answer_text}

-- ---- the passes that are counted

-- what calls said, in order
unfoldable pub said_by : List (Outcome PassStats) → List PassStats
said_by [] = []
said_by (refused r ∷ os) = said_by os
said_by (done a ∷ os) = a.answer ∷ said_by os

-- the outcomes of an accepted frame: one for each pass, in order, with its role and with what its call said; none is lost, and none has another's
-- role
pub record EachCounted (f : Frame) : Type 0 where
  pub as_many : length (frame_outcomes f) ≡ length (parts_of f).passes
  pub roles : map (λ o. o.role) (frame_outcomes f) ≡ map (λ p. p.role) (parts_of f).passes
  pub stats : map (λ o. o.stats) (frame_outcomes f) ≡ said_by (run (frame_corners f) (sheet_of f) (calls_of f))

abbrev pub EachRole : Type 0
EachRole = (text : List ℕ) (f : Frame) → read_frame text ≡ accepted f → EachCounted f

-- ---- "In every result"

-- the heading, the pass lines with those of unmatched corners, a line for each role, and the cells with all behind them
abbrev pub result_with : List ℕ → List ℕ → List ℕ → List ℕ → List ℕ → List ℕ
result_with passes plant depot dealer sheet = heading ++ (passes ++ (plant ++ (depot ++ (dealer ++ sheet))))

-- a result of these outcomes and this sheet; the line of a role has the sums over the passes run under it
abbrev pub result_of : List RoledStats → List ℕ → List ℕ
result_of os sheet = result_with (pass_lines os) (line_of_role os Role.Plant) (line_of_role os Role.Depot) (line_of_role os Role.Dealer) (sheet_text sheet)

-- "In every result, after the last pass line, with its unmatched line, and before the cells, print `(role name attached none ambiguous edge)` for
-- plant, depot, dealer"; a refused text's answer is `(refused number line)` alone, with no such line
pub record InEveryResult : Type 0 where
  pub of_accepted : (text : List ℕ) (f : Frame) → read_frame text ≡ accepted f
      → answer_text text ≡ result_of (frame_outcomes f) (frame_sheet f)
  pub of_refused : (text : List ℕ) (r : Refusal) (line : ℕ) → read_frame text ≡ refused_at r line → answer_text text ≡ refused_text r line

-- with no pass too: all counts are 0, and the cells are those given
abbrev pub all_zero : List ℕ → List ℕ
all_zero sheet = result_with [] (bytes "(role plant 0 0 0 0)\n") (bytes "(role depot 0 0 0 0)\n") (bytes "(role dealer 0 0 0 0)\n") (sheet_text sheet)

abbrev pub NoPassZeros : Type 0
NoPassZeros = (text : List ℕ) (f : Frame) → read_frame text ≡ accepted f → (parts_of f).passes ≡ [] → answer_text text ≡ all_zero (sheet_of f)

-- ---- how large the sums are

-- 16 passes at most, each of which says counts of 1,048,576 at most: 64 rounds of 16,384 cells
abbrev pub SumsBounded : Type 0
SumsBounded = (text : List ℕ) (f : Frame) → read_frame text ≡ accepted f → (r : Role) → AtMost 16777216 (sum_for r (frame_outcomes f))
