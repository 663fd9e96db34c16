-- Two patches in a frame (document 02, 3/14): where the patch line stands, and that two sets with a corner in common are refused exactly if no shift joins
-- them. What each refusal means is `frame` `Text`, `Refused`; the union is `Calls`, `GivenLabels`. Definitions only.
use Rattle.std.specs.Prelude.{◌≡◌, true, List, [], ◌↔◌, ℕ, suc, ◌<◌, ◌≤◌, length, get_or}
use Rattle.join.specs.Rule.{Shared, NoShift}
use Rattle.line_form.specs.Forms.{bytes}
use Rattle.line_form.specs.Lines.{lines_of}
use Rattle.frame_line.specs.Table.{may_end}
use Rattle.sizes.specs.Sizes.{byte_limit}
use Rattle.frame.specs.Frame.{Frame, parts_of, first_set, second_set, patch_line, FrameRead, refused_at, accepted, read_frame}
use Rattle.frame.specs.Text.{Passed}

-- a text within the byte limit, all of whose lines pass their checks, and which may end there; f is what its lines say
pub record AllPass (text : List ℕ) (f : Frame) : Type 0 where
  pub bytes : length text ≤ byte_limit
  pub stage : ℕ
  pub passed : Passed 0 [] (lines_of text) stage f
  pub ends : may_end stage ≡ true

-- "reported at the patch line": the number that a refusal of the join has is that of the line that reads `(patch)`
pub record PatchOf (text : List ℕ) (f : Frame) : Type 0 where
  pub index : ℕ
  pub inside : index < length (lines_of text)
  pub reads : get_or (lines_of text) index [] ≡ bytes "(patch)\n"
  pub number : suc index ≡ patch_line (parts_of f)

abbrev pub PatchStands : Type 0
PatchStands = (text : List ℕ) (f : Frame) → AllPass text f → (parts_of f).patched ≡ true → PatchOf text f

-- a text is refused, with whatever number
abbrev pub IsRefused : FrameRead → Type 0
IsRefused (refused_at r n) = Unit {0}
IsRefused (accepted f) = ⊥

-- "Two sets with a corner in common are refused exactly if no such shift onto the sheet exists."
abbrev pub PatchesRefusedIf : Type 0
PatchesRefusedIf = (text : List ℕ) (f : Frame) → AllPass text f → (parts_of f).patched ≡ true → Shared (first_set (parts_of f)) (second_set (parts_of f))
    → IsRefused (read_frame text) ↔ NoShift (first_set (parts_of f)) (second_set (parts_of f))
