-- A frame printed, which frames are within 01's limits, and the laws between reading and printing (document 01, "Frame and result"; demand 1).
-- Definitions only; the laws are proved in the crate frame_laws.
use Rattle.std.specs.Prelude.{◌≡◌, Bool, true, false, List, [], ◌∷◌, ◌++◌, ℕ, suc, ◌<◌, ◌≤◌, length, get_or, take, pos, Err}
use Rattle.refusal.specs.declared.Refusal.{Refusal}
use Rattle.sheet.specs.Cells.{OnSheet}
use Rattle.sheet.specs.declared.Offset.{Offset}
use Rattle.join.specs.Rule.{Placed, Shared, Shift, Meaning, All, AllDiffer}
use Rattle.join.specs.declared.Unjoinable.{Unjoinable}
use Rattle.line_form.specs.Forms.{bytes}
use Rattle.line_form.specs.Lines.{lines_of}
use Rattle.frame_line.specs.Table.{turn_at, may_end}
use Rattle.frame_line.specs.Lines.{Line, kind_of, Proper, line_text, LabelLine, ShadeLine, pass_kind, LineRead, ill_formed, line, read_line}
use Rattle.frame_line.specs.Checks.{outside_line}
use Rattle.std.specs.Prelude.{None, Some}
use Rattle.frame_check.specs.Checks.{may_run}
use Rattle.sizes.specs.Sizes.{corner_limit, pass_limit, byte_limit}
use Rattle.frame.specs.Frame.{Frame, RoledPass, parts_of, first_set, second_set, outside_in, over_in, twice_in, forbidden_in, onward, step_line, refused_at, accepted, read_frame}

-- ---- printed

unfoldable pub frame_text : Frame → List ℕ
frame_text [] = []
frame_text (l ∷ ls) = line_text l ++ frame_text ls

-- ---- within the limits

-- "Lines, in order": each in its turn, and a frame may end after the last
pub data InOrder : ℕ → List Line → Type 0 where
  ends : {stage : ℕ} → may_end stage ≡ true → InOrder stage []
  next : {stage to : ℕ} {ls : List Line} (l : Line) → turn_at stage l.row ≡ Some to → InOrder to ls → InOrder stage (l ∷ ls)

-- a line of the table, none of whose numbers has a refusal, with n corners given: each is in its range, a shade's kind is 0 or 1, a label is on
-- the sheet, and the corner of a label or a shade is given
pub record InRange (n : ℕ) (l : Line) : Type 0 where
  pub proper : Proper l
  pub first : outside_line 1 n l ≡ false
  pub ranges : outside_line 3 n l ≡ false
  pub on_sheet_holds : outside_line 4 n l ≡ false
  pub known : outside_line 5 n l ≡ false

-- a label of one of n corners, on the sheet
pub record Sound (n : ℕ) (l : LabelLine) : Type 0 where
  pub on_sheet_holds : OnSheet l.cell
  pub corner : ℕ
  pub is_corner_holds : l.corner ≡ pos corner
  pub given : corner < n

-- a shade of one of n corners, its kind 0 or 1
pub record SoundShade (n : ℕ) (s : ShadeLine) : Type 0 where
  pub corner : ℕ
  pub is_corner_holds : s.corner ≡ pos corner
  pub given : corner < n
  pub kind : ℕ
  pub is_kind_holds : s.kind ≡ pos kind
  pub small : kind ≤ 1

-- no cell and no corner is labelled twice
abbrev pub Apart : List LabelLine → Type 0
Apart ls = AllDiffer (λ l m. (l.cell ≡ m.cell → ⊥) × (l.corner ≡ m.corner → ⊥)) ls

-- no corner is shaded twice
abbrev pub ApartShades : List ShadeLine → Type 0
ApartShades ss = AllDiffer (λ s t. s.corner ≡ t.corner → ⊥) ss

-- a pass that its role may run
abbrev pub Permitted : RoledPass → Type 0
Permitted q = may_run q.role (pass_kind q.pass) ≡ true

-- two sets that can be joined: a corner is in both, and a shift onto the sheet gives every shared corner one cell and every cell one corner
pub record Joinable (first second : List Placed) : Type 0 where
  pub shared : Shared first second
  pub shift : Offset
  pub onto : Shift first second shift

-- a frame that 01 and 02 allow: "At most 65,536 bytes, 1,024 corners, 16 passes", its lines in order, every number in its range, labels on the
-- sheet, labels and shades of given corners, no cell or corner labelled twice in either set, no corner shaded twice, each pass run by a role that may,
-- two sets that can be joined
pub record WithinLimits (f : Frame) : Type 0 where
  pub bytes : length (frame_text f) ≤ byte_limit
  pub order : InOrder 0 f
  pub numbers : All (InRange (length (parts_of f).corners)) f
  pub corners : length (parts_of f).corners ≤ corner_limit
  pub passes : length (parts_of f).passes ≤ pass_limit
  pub once : Apart (parts_of f).labels
  pub second_once : Apart (parts_of f).second
  pub shaded_once : ApartShades (parts_of f).shades
  pub permitted : All Permitted (parts_of f).passes
  pub joins : (parts_of f).patched ≡ true → Joinable (first_set (parts_of f)) (second_set (parts_of f))

-- ---- the laws

-- what is printed of a frame within the limits is accepted and read back: the reader refuses nothing that 01 and 02 allow
abbrev pub FrameReadsBack : Type 0
FrameReadsBack = (f : Frame) → WithinLimits f → read_frame (frame_text f) ≡ accepted f

-- an accepted text is what is printed of what was read, and that is within the limits
pub record FramePrintsBack (text : List ℕ) (f : Frame) : Type 0 where
  pub text_again : text ≡ frame_text f
  pub within : WithinLimits f

-- the labels of a frame within the limits, those of either set, are on the sheet and of given corners
abbrev pub LabelsSound : Type 0
LabelsSound = (f : Frame) → WithinLimits f
    → All (Sound (length (parts_of f).corners)) (parts_of f).labels × All (Sound (length (parts_of f).corners)) (parts_of f).second

-- its shades are of given corners and their kinds 0 or 1
abbrev pub ShadesSound : Type 0
ShadesSound = (f : Frame) → WithinLimits f → All (SoundShade (length (parts_of f).corners)) (parts_of f).shades

-- ---- what a refusal means

-- the first check that fails on a line in its turn: `outside r`, some number of it has the refusal r; `over`, a limit is passed; `twice`, it is
-- doubled; `forbidden`, its role may not run it
pub data FirstCheck (outside : ℕ → Bool) (over twice forbidden : Bool) : Refusal → Type 0 where
  is_first : outside 1 ≡ true → FirstCheck outside over twice forbidden Refusal.Malformed
  too_many : outside 1 ≡ false → over ≡ true → FirstCheck outside over twice forbidden Refusal.OverLimit
  is_wild : outside 1 ≡ false → over ≡ false → outside 3 ≡ true → FirstCheck outside over twice forbidden Refusal.OutOfRange
  is_off_sheet : outside 1 ≡ false → over ≡ false → outside 3 ≡ false → outside 4 ≡ true → FirstCheck outside over twice forbidden Refusal.OffSheet
  is_unknown : outside 1 ≡ false → over ≡ false → outside 3 ≡ false → outside 4 ≡ false → outside 5 ≡ true → FirstCheck outside over twice forbidden Refusal.UnknownCorner
  is_doubled : outside 1 ≡ false → over ≡ false → outside 3 ≡ false → outside 4 ≡ false → outside 5 ≡ false → twice ≡ true
      → FirstCheck outside over twice forbidden Refusal.Duplicate
  is_not_permitted : outside 1 ≡ false → over ≡ false → outside 3 ≡ false → outside 4 ≡ false → outside 5 ≡ false → twice ≡ false → forbidden ≡ true
      → FirstCheck outside over twice forbidden Refusal.NotPermitted

-- the first check that fails on a line, in order 1 to 6, then 10; a line that has no form, or is not in its turn, fails the first
pub data FirstFault (stage : ℕ) (f : Frame) : LineRead → Refusal → Type 0 where
  has_no_form : FirstFault stage f ill_formed Refusal.Malformed
  not_its_turn : {l : Line} → turn_at stage l.row ≡ None → FirstFault stage f (line l) Refusal.Malformed
  fails : {l : Line} {to : ℕ} {r : Refusal} → turn_at stage l.row ≡ Some to
      → FirstCheck (outside_in (parts_of f) l) (over_in (parts_of f) (kind_of l)) (twice_in (parts_of f) (kind_of l) l.numbers)
      (forbidden_in (parts_of f) (kind_of l)) r
      → FirstFault stage f (line l) r

-- lines that all pass their checks, one after the other, from a stage and a frame to another
pub data Passed : ℕ → Frame → List (List ℕ) → ℕ → Frame → Type 0 where
  none_yet : {stage : ℕ} {f : Frame} → Passed stage f [] stage f
  one_more : {stage stage' stage'' : ℕ} {f f' f'' : Frame} {text : List ℕ} {texts : List (List ℕ)} → step_line stage f text ≡ onward stage' f' → Passed stage' f' texts stage'' f''
      → Passed stage f (text ∷ texts) stage'' f''

-- "8 if no corner is in both sets, 9 if no shift gives every shared corner one cell and every cell one corner, then 4 if that shift takes a label off
-- the sheet": what each means is the rule's `Meaning` (crate join)
pub data Unjoined (first second : List Placed) : Refusal → Type 0 where
  are_apart : Meaning first second (Err Unjoinable.Apart) → Unjoined first second Refusal.NoSharedCorner
  do_clash : Meaning first second (Err Unjoinable.Clash) → Unjoined first second Refusal.PatchesClash
  goes_off : Meaning first second (Err Unjoinable.Off) → Unjoined first second Refusal.OffSheet

-- Why a text is refused at a line: too many bytes, line 0; or the lines before it pass and it fails, that number being the first check that
-- fails on it; or all lines pass, and after the last one of the first four is missing, or the pass behind an as line; or all lines pass and the text
-- may end there, this line is the patch line, and the two sets are not joined.
pub data Refused (text : List ℕ) : Refusal → ℕ → Type 0 where
  too_long : byte_limit < length text → Refused text Refusal.OverLimit 0
  at_line : (n stage : ℕ) (f : Frame) (r : Refusal) → length text ≤ byte_limit → n < length (lines_of text) → Passed 0 [] (take n (lines_of text)) stage f
      → FirstFault stage f (read_line (get_or (lines_of text) n [])) r → Refused text r (suc n)
  missing : (stage : ℕ) (f : Frame) → length text ≤ byte_limit → Passed 0 [] (lines_of text) stage f → may_end stage ≡ false → Refused text Refusal.Malformed (suc (length (lines_of text)))
  unjoined : (n stage : ℕ) (f : Frame) (r : Refusal) → length text ≤ byte_limit → Passed 0 [] (lines_of text) stage f → may_end stage ≡ true
      → n < length (lines_of text) → get_or (lines_of text) n [] ≡ bytes "(patch)\n" → Unjoined (first_set (parts_of f)) (second_set (parts_of f)) r
      → Refused text r (suc n)

-- each refusal means what the table says
abbrev pub RefusalsMean : Type 0
RefusalsMean = (text : List ℕ) (r : Refusal) (n : ℕ) → read_frame text ≡ refused_at r n → Refused text r n
