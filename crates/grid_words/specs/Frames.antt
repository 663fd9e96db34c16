-- The reader for another language: beside the buffers of a frame, five lent numbers for the label box, six lent floats for the settings and two lent
-- words for the numbers of corners and passes. Definitions only.
use Rattle.std.specs.Prelude.{◌≡◌, Bool, true, false, ◌||◌, List, ◌∷◌, ℕ, ℤ, ◌+◌, ◌*◌, ◌<◌, ◌≤◌, ltb, length, drop, Float, Result, Ok, Err}
use Rattle.refusal.specs.declared.Refusal.{Refusal}
use Rattle.refusal.specs.Refusal.{number_of}
use Rattle.labels.specs.Kept.{box_kept}
use Rattle.arguments.specs.declared.Settings.{Settings}
use Rattle.frame.specs.ReadFrame.{Buffers, FrameOut, read_into}
use Rattle.frame.specs.declared.FrameHead.{FrameHead}
use Rattle.frame.specs.declared.FrameRefusal.{FrameRefusal}
use Rattle.grid_words.specs.Around.{box_size, box_told, box_entered}

-- a number as a word
abbrev pub Word : ℕ → Type 0
Word n = n < 4294967296

-- ---- what is written beside the frame's buffers

-- cell size, both axes and the band at the front, the rest untouched
abbrev pub settings_entered : Settings → List Float → List Float
settings_entered s floats =
    s.grid.cell_size ∷ s.grid.axis_i.x ∷ s.grid.axis_i.y ∷ s.grid.axis_j.x ∷ s.grid.axis_j.y ∷ s.edge_length_tol
    ∷ drop 6 floats

-- corners and passes of an accepted frame
abbrev pub counts_entered : ℕ → ℕ → List ℕ → List ℕ
counts_entered corners passes out = corners ∷ passes ∷ drop 2 out

-- the number and the line of a refused one: the answer modulo 16, and by 16
abbrev pub refused_answer : Refusal → ℕ → ℕ
refused_answer r line = number_of r + 16 * line

-- 0 where the frame is accepted, else that
abbrev pub frame_answered : Result (Unit {0}) FrameRefusal → ℕ
frame_answered (Ok u) = 0
frame_answered (Err e) = refused_answer e.refusal e.line

pub record Told : Type 0 where
  pub answer : ℕ
  pub around : List ℤ
  pub settings : List Float
  pub out : List ℕ

abbrev pub told : ℕ → List ℤ → List Float → List ℕ → Told
told answer around settings out = record { answer = answer; around = around; settings = settings; out = out }

abbrev pub frame_told : Result FrameHead FrameRefusal → List ℤ → List Float → List ℕ → Told
frame_told (Err e) around settings out = told (refused_answer e.refusal e.line) around settings out
frame_told (Ok h) around settings out =
    told 0 (box_entered h.around around) (settings_entered h.settings settings) (counts_entered h.corners h.passes out)

-- ---- the call

-- the answer, and every lent buffer after the call
pub record FrameLeft : Type 0 where
  pub said : Told
  pub buffers : Buffers

abbrev pub frame_left : ℕ → List Float → List Float → List Float → List ℕ → List ℕ → List ℤ → List ℕ → List Float → List ℕ → FrameLeft
frame_left answer xs ys pitches shades sheet around passes settings out =
    record {
      said = told answer around settings out;
      buffers = record { xs = xs; ys = ys; pitches = pitches; shades = shades; sheet = sheet; passes = passes };
    }

-- what is said of a frame that is read
abbrev pub frame_read : FrameOut → List ℤ → List Float → List ℕ → FrameLeft
frame_read o around settings out = record { said = frame_told o.answer around settings out; buffers = o.buffers }

-- 7 where there is no room for five numbers, six floats or two words, before any byte is read
unfoldable pub head_short : List ℤ → List Float → List ℕ → Bool
head_short around settings out = ltb (length around) box_size || (ltb (length settings) 6 || ltb (length out) 2)

abbrev pub frame_unless : Bool → List ℕ → Buffers → List ℤ → List Float → List ℕ → FrameLeft
frame_unless true text b around settings out = record { said = told 7 around settings out; buffers = b }
frame_unless false text b around settings out = frame_read (read_into text b) around settings out

unfoldable pub frame_exported : List ℕ → Buffers → List ℤ → List Float → List ℕ → FrameLeft
frame_exported text b around settings out = frame_unless (head_short around settings out) text b around settings out

-- what an accepted frame leaves in the five places is the box of the sheet that it leaves, as a pass is told it; proved in proofs/Frames.antt
abbrev pub ReadAsHanded : Type 0
ReadAsHanded =
    (text : List ℕ) (b : Buffers) (around : List ℤ) (settings : List Float) (out : List ℕ)
    → (frame_exported text b around settings out).said.answer ≡ 0
    → box_told (frame_exported text b around settings out).said.around ≡ box_kept (frame_exported text b around settings out).buffers.sheet

-- ---- what an answer has to say fits into words

abbrev pub Sayable : Result FrameHead FrameRefusal → Type 0
Sayable (Err e) = e.line ≤ 10000000
Sayable (Ok h) = Word h.corners × Word h.passes
