-- Two frames that differ only in the order of their corner lines (document 01, "Lists of passes, for demand 3"): "The reordering pairs the
-- corner lines of both frames one to one, each with an equal line; a pair is one physical corner. The labels name paired corners, and the
-- calls' other arguments and buffer lengths are equal." And document 02, 1/14: "Relisting corners relists their shades, those of a frame's
-- lines and those lent to a call alike: both corners of a pair have the same kind or none." And 3/14, of two patches: "Corner order still decides
-- nothing." Definitions only.
use Rattle.std.specs.Prelude.{◌≡◌, List, map, ◌↔◌, ℕ, ◌<◌, pos, nat_abs, length, get_or}
use Rattle.refusal.specs.declared.Refusal.{Refusal}
use Rattle.sheet.specs.Shades.{Shade}
use Rattle.sheet.specs.Pairing.{Shuffle}
use Rattle.arguments.specs.Shades.{shade_of}
use Rattle.passes.specs.Run.{Call, run}
use Rattle.agreement.specs.Agreement.{Reordered, RelistedCall, Relisted, Agree, FactorsAbove, BothRuns}
use Rattle.frame_line.specs.Lines.{CornerLine, LabelLine, ShadeLine, PassLine}
use Rattle.frame.specs.Frame.{Frame, parts_of, read_frame, refused_at, accepted}
use Rattle.frame.specs.ReadFrame.{shades_of, sheet_of}
use Rattle.frame_laws.specs.Calls.{frame_corners, call_of, calls_of}
use Rattle.frame_laws.specs.Patches.{AllPass}
use Rattle.frame_laws.specs.Shades.{ShadedBy}

-- the corner line of a number; zeros where there is none
abbrev pub corner_line : Frame → ℕ → CornerLine
corner_line f i = get_or (parts_of f).corners i (record { x = 0; y = 0; pitch = 0 })

-- the shade of the corner of a number, as the calls are lent it: the kind that a shade line gives it, or none
abbrev pub corner_shade : Frame → ℕ → Shade
corner_shade f i = shade_of (get_or (shades_of f) i 0)

-- "both corners of a pair have the same kind or none", in whatever order the shade lines stand
abbrev pub SameShades : {n : ℕ} → Shuffle n → Frame → Frame → Type 0
SameShades {n} s f f' = (i : ℕ) → i < n → corner_shade f' (s.to i) ≡ corner_shade f i

-- the label line that names the paired corner at the same cell
abbrev pub renumbered : {n : ℕ} → Shuffle n → LabelLine → LabelLine
renumbered s l = record { corner = pos (s.to (nat_abs l.corner)); cell = l.cell }

-- the corner lines paired one to one, each with an equal line; the labels, of both sets, renumbered and the shades relisted to match; all else equal
pub record SameButOrder (f f' : Frame) : Type 0 where
  pub opening : (parts_of f').opening ≡ (parts_of f).opening
  pub count : length (parts_of f').corners ≡ length (parts_of f).corners
  pub pairs : Shuffle (length (parts_of f).corners)
  pub same_line : (i : ℕ) → i < length (parts_of f).corners → corner_line f' (pairs.to i) ≡ corner_line f i
  pub labels : (parts_of f').labels ≡ map (renumbered pairs) (parts_of f).labels
  pub patched : (parts_of f').patched ≡ (parts_of f).patched
  pub second : (parts_of f').second ≡ map (renumbered pairs) (parts_of f).second
  pub shades : SameShades pairs f f'
  pub passes : (parts_of f').passes ≡ (parts_of f).passes

-- ---- the shades by the lines

-- each shade line has in the other frame the line of the paired corner, with the same kind; in any order
pub record RelistedLines {n : ℕ} (s : Shuffle n) (ss ss' : List ShadeLine) : Type 0 where
  pub each : (i k : ℕ) → i < n → ShadedBy ss i k → ShadedBy ss' (s.to i) k
  pub only : (i k : ℕ) → i < n → ShadedBy ss' (s.to i) k → ShadedBy ss i k

-- the shades of two accepted frames are relisted exactly if their shade lines are
pub record ByLines {n : ℕ} (s : Shuffle n) (f f' : Frame) : Type 0 where
  pub lines_give : RelistedLines s (parts_of f).shades (parts_of f').shades → SameShades s f f'
  pub lines_have : SameShades s f f' → RelistedLines s (parts_of f).shades (parts_of f').shades

abbrev pub ShadesByLines : Type 0
ShadesByLines =
    (text text' : List ℕ) (f f' : Frame) → read_frame text ≡ accepted f → read_frame text' ≡ accepted f' → (n : ℕ) (s : Shuffle n) → ByLines s f f'

-- ---- the claim

-- Demand 3 of two such frames: their corners and the sheets of their given labels are a reordering, paired as the corner lines are; every list of
-- calls from there, relisted for the second frame, has the invariants in both runs and, if each call that runs has an ambiguity factor above 1, both
-- runs agree after every call. A pass line is the same call in both, lent relisted shades, and so the frames' own passes are such lists.
pub record RunAlike (f f' : Frame) (same : SameButOrder f f') : Type 0 where
  pub reordered : Reordered (frame_corners f) (frame_corners f') (sheet_of f) (sheet_of f')
  pub paired_to : (k : ℕ) → reordered.corners.pairs.to k ≡ same.pairs.to k
  pub paired_from : (k : ℕ) → reordered.corners.pairs.from k ≡ same.pairs.from k
  pub any_list : (calls calls' : List Call) → Relisted reordered.corners.pairs calls calls'
      → BothRuns (frame_corners f) (frame_corners f') (sheet_of f) (sheet_of f') reordered calls calls'
  pub relisted_call : (p : PassLine) → RelistedCall reordered.corners.pairs (call_of f p) (call_of f' p)
  pub relisted_calls : Relisted reordered.corners.pairs (calls_of f) (calls_of f')
  pub own_list : FactorsAbove (calls_of f) (run (frame_corners f) (sheet_of f) (calls_of f))
      → Agree reordered.corners.pairs (sheet_of f) (sheet_of f')
      (run (frame_corners f) (sheet_of f) (calls_of f)) (run (frame_corners f') (sheet_of f') (calls_of f'))

abbrev pub FramesRunAlike : Type 0
FramesRunAlike =
    (text text' : List ℕ) (f f' : Frame) → read_frame text ≡ accepted f → read_frame text' ≡ accepted f' → (same : SameButOrder f f') → RunAlike f f' same

-- ---- refused alike

-- as many corners, and the labels of both sets renumbered to match; nothing is asked of all else, so two frames that differ only in the order of their
-- corner lines are such
pub record SameLabels (f f' : Frame) : Type 0 where
  pub count : length (parts_of f').corners ≡ length (parts_of f).corners
  pub pairs : Shuffle (length (parts_of f).corners)
  pub first_set_holds : (parts_of f').labels ≡ map (renumbered pairs) (parts_of f).labels
  pub patched : (parts_of f').patched ≡ (parts_of f).patched
  pub second_set_holds : (parts_of f').second ≡ map (renumbered pairs) (parts_of f).second

abbrev pub same_labels : {f f' : Frame} → SameButOrder f f' → SameLabels f f'
same_labels same =
    record { count = same.count; pairs = same.pairs; first_set_holds = same.labels; patched = same.patched; second_set_holds = same.second }

-- "Corner order still decides nothing": of two texts within the byte limit, all of whose lines pass and which may end there, that differ in the order of
-- their corner lines, one is refused exactly if the other is, with the same number and line (so with 8, 9 or 4, at the patch line), and one is accepted
-- exactly if the other is
pub record EndAlike (text text' : List ℕ) (f f' : Frame) : Type 0 where
  pub refused_alike : (r : Refusal) (n : ℕ) → read_frame text ≡ refused_at r n ↔ read_frame text' ≡ refused_at r n
  pub accepted_alike : read_frame text ≡ accepted f ↔ read_frame text' ≡ accepted f'

abbrev pub TextsEndAlike : Type 0
TextsEndAlike = (text text' : List ℕ) (f f' : Frame) → AllPass text f → AllPass text' f' → SameLabels f f' → EndAlike text text' f f'
