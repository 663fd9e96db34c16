-- The answer to an accepted text, by the written places of its sheet alone, so that it can be computed. `proofs/Answer.antt` shows that it is the
-- answer. Definitions only.
use Rattle.std.specs.Prelude.{List, [], ◌∷◌, ◌++◌, map, ℕ}
use Rattle.sheet.specs.Cells.{cell_of}
use Rattle.sheet.specs.Words.{label_of}
use Rattle.role_counts.specs.RoleCounts.{RoledStats}
use Rattle.join.specs.Rule.{Placed}
use Rattle.frame.specs.Frame.{Frame, parts_of, given_of}
use Rattle.frame_laws.specs.Calls.{frame_corners, calls_of}
use Rattle.report_line.specs.Result.{label_line, pass_lines, role_lines, heading}
use Rattle.frame_answer.specs.Answer.{outcomes_of}
use Rattle.result_agreement.specs.Alike.{numbered_anew}
use Rattle.written_places.specs.Written.{Written, told, attached_in}
use Rattle.written_places.specs.Run.{Asked, runs, RunIn, run_in}
use Rattle.written_places.specs.Text.{hole_says, ambiguous_says, text_in}

-- the written places with some labels more, and those of the given labels
unfoldable pub labelled_in : List Written → List Placed → List Written
labelled_in w [] = w
labelled_in w (l ∷ ls) = labelled_in (attached_in w l.cell l.corner) ls

abbrev pub given_in : Frame → List Written
given_in f = labelled_in [] (given_of (parts_of f))

-- a frame's passes, all of which run
abbrev pub asked : Frame → List Asked
asked f = map runs (calls_of f)

abbrev pub frame_run : Frame → RunIn
frame_run f = run_in (frame_corners f) (given_in f) (asked f)

-- the text of a frame's run
unfoldable pub run_text : Frame → RunIn → List ℕ
run_text f r = text_in (outcomes_of (parts_of f).passes r.outcomes) r.left

-- a result with the corners of its cell lines numbered anew
abbrev pub cell_says_anew : (ℕ → ℕ) → ℕ → ℕ → List ℕ
cell_says_anew to p v = label_line (cell_of p) (numbered_anew to (label_of v))

unfoldable pub renumbered_in : (ℕ → ℕ) → List RoledStats → List Written → List ℕ
renumbered_in to outcomes w =
    heading ++ (pass_lines outcomes ++ (role_lines outcomes ++ (told (cell_says_anew to) w ++ (told hole_says w ++ told ambiguous_says w))))
