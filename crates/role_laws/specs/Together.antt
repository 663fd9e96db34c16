-- What the roles attached together (document 02, 7/14). Definitions only.
use Rattle.std.specs.Prelude.{◌≡◌, true, false, List, ℕ, ◌+◌, length}
use Rattle.labels.specs.Labelled.{label_count}
use Rattle.role_counts.specs.RoleCounts.{together}
use Rattle.join.specs.Rule.{Placed}
use Rattle.join.specs.Join.{kept, cell_in, is_found}
use Rattle.frame.specs.Frame.{Frame, parts_of, first_set, second_set, given_of, read_frame, accepted}
use Rattle.frame.specs.ReadFrame.{sheet_of}
use Rattle.frame_answer.specs.Answer.{frame_outcomes, frame_sheet}

-- ---- the claim

-- "The attached counts together equal the cells labelled at the end less those given."
abbrev pub AttachedTogether : Type 0
AttachedTogether =
    (text : List ℕ) (f : Frame) → read_frame text ≡ accepted f
    → (together (frame_outcomes f)).attached + label_count (sheet_of f) ≡ label_count (frame_sheet f)

-- ---- how many are given

-- the labels of the second set whose corners the first has too
abbrev pub shared_labels : List Placed → List Placed → List Placed
shared_labels first second = kept (λ l. is_found (cell_in first l.corner)) second

-- The cells given are as many as the given labels: those of the label lines; or with two patches those of the union, in which a corner of both sets
-- is one.
pub record GivenCells (f : Frame) : Type 0 where
  pub given : label_count (sheet_of f) ≡ length (given_of (parts_of f))
  pub one_set : (parts_of f).patched ≡ false → label_count (sheet_of f) ≡ length (parts_of f).labels
  pub both_sets_holds : (parts_of f).patched ≡ true
      → label_count (sheet_of f) + length (shared_labels (first_set (parts_of f)) (second_set (parts_of f)))
      ≡ length (parts_of f).labels + length (parts_of f).second

abbrev pub EachGivenOnce : Type 0
EachGivenOnce = (text : List ℕ) (f : Frame) → read_frame text ≡ accepted f → GivenCells f
