-- The label box that is kept with a frame's sheet: "Reading labels, joining and attaching must each keep them equal to what a search would find"
-- (document 02, 5/14). Definitions only; `proofs/Around` proves them.
use Rattle.std.specs.Prelude.{◌≡◌, false, true, List, ℕ, Ok}
use Rattle.sheet.specs.Words.{empty_sheet}
use Rattle.labels.specs.Box.{IsBox, box_of}
use Rattle.labels.specs.Kept.{around_of}
use Rattle.join.specs.Rule.{Placed}
use Rattle.join.specs.Join.{union_of, joined}
use Rattle.join.specs.Sheets.{labelled}
use Rattle.frame.specs.Frame.{Frame, parts_of, first_set, second_set, accepted, read_frame}
use Rattle.frame.specs.ReadFrame.{Buffers, sheet_of, read_into}
use Rattle.frame.specs.declared.FrameHead.{FrameHead}

-- the box of a sheet: what a search of it finds, so the lowest and highest labelled i and j, or empty
pub record BoxOfSheet (sheet : List ℕ) (head : FrameHead) : Type 0 where
  pub found : around_of head.around ≡ box_of sheet
  pub is_box : IsBox sheet (around_of head.around)

-- a text that is accepted, with its answer
pub record AcceptedAs (text : List ℕ) (b : Buffers) (f : Frame) (head : FrameHead) : Type 0 where
  pub read : read_frame text ≡ accepted f
  pub answered : (read_into text b).answer ≡ Ok head

-- reading: the box is that of the sheet of the given labels
abbrev pub ReadingKeepsBox : Type 0
ReadingKeepsBox = (text : List ℕ) (b : Buffers) (f : Frame) (head : FrameHead) → AcceptedAs text b f head → BoxOfSheet (sheet_of f) head

-- where no patch line stands, these are the labels that were read
abbrev pub FirstSetKeepsBox : Type 0
FirstSetKeepsBox =
    (text : List ℕ) (b : Buffers) (f : Frame) (head : FrameHead) → AcceptedAs text b f head → (parts_of f).patched ≡ false
    → BoxOfSheet (labelled empty_sheet (first_set (parts_of f))) head

-- joining: where it stands, the box is that of the union
pub record BoxOfUnion (f : Frame) (head : FrameHead) : Type 0 where
  pub union : List Placed
  pub is_joined : joined (first_set (parts_of f)) (second_set (parts_of f)) ≡ union_of union
  pub box : BoxOfSheet (labelled empty_sheet union) head

abbrev pub JoiningKeepsBox : Type 0
JoiningKeepsBox =
    (text : List ℕ) (b : Buffers) (f : Frame) (head : FrameHead) → AcceptedAs text b f head → (parts_of f).patched ≡ true → BoxOfUnion f head
