-- How the reader holds what it has read: its arrays and numbers, tied to the definition's frame, and what its functions leave. Definitions
-- only.
use Rattle.std.specs.Prelude.{◌≡◌, Bool, true, false, List, map, ℕ, ◌+◌, ◌*◌, ◌<◌, ◌≤◌, ℤ, pos, length, take, replicate, Float, Result, Ok, Err}
use Rattle.refusal.specs.declared.Refusal.{Refusal}
use Rattle.sheet.specs.Cells.{OnSheet, place_of, eq_z}
use Rattle.sheet.specs.Words.{empty_sheet}
use Rattle.sheet.specs.declared.Cell.{Cell}
use Rattle.labels.specs.Box.{box_of}
use Rattle.labels.specs.Count.{how_many}
use Rattle.join.specs.Rule.{Placed, All}
use Rattle.join.specs.Join.{same_cell}
use Rattle.join.specs.Sheets.{labelled}
use Rattle.join_sheet.specs.Held.{held_labels, HeldSecond, HeldSets, Outcome, join_on}
use Rattle.frame_line.specs.Lines.{CornerLine, LabelLine, ShadeLine}
use Rattle.frame_line.specs.Table.{turn_at}
use Rattle.frame_line.specs.declared.HeldLine.{HeldLine}
use Rattle.std.specs.Prelude.{Option, None, Some}
use Rattle.std.specs.List.{list_any}
use Rattle.join_sheet.specs.declared.SecondLabel.{SecondLabel}
use Rattle.frame_check.specs.Checks.{is_set, is_used, has_place, checked_held}
use Rattle.frame_check.specs.declared.Held.{Held}
use Rattle.sizes.specs.Sizes.{corner_limit, place_count, pass_size, all_pass_words}
use Rattle.frame_state.specs.State.{patched_of, second_of, Counted, at_stage, arrays, State, state, BoxFound, adds}
use Rattle.frame_state.specs.declared.Progress.{Progress}
use Rattle.frame.specs.Frame.{Frame, RoledPass, Parts, parts_of, some_of, placed, FrameRead, refused_at, accepted}
use Rattle.frame.specs.Text.{Sound, Apart}
use Rattle.frame.specs.ReadFrame.{float_of, settings_in, shaded, sheet_of, all_words, Buffers}
use Rattle.frame.specs.declared.Buffers as Lent
use Rattle.frame.specs.declared.FrameRefusal.{FrameRefusal}
use Rattle.arguments.specs.Arguments.{Checked}
use Rattle.arguments.specs.Front.{over}

-- ---- what the arrays hold

abbrev pub xs_in : List CornerLine → List Float
xs_in cs = map (λ c. float_of c.x) cs

abbrev pub ys_in : List CornerLine → List Float
ys_in cs = map (λ c. float_of c.y) cs

abbrev pub pitches_in : List CornerLine → List Float
pitches_in cs = map (λ c. float_of c.pitch) cs

-- the same with another sheet, and with its label box
abbrev pub on_sheet_of : Held → List ℕ → Held
on_sheet_of a sheet = arrays a.xs a.ys a.pitches a.shades sheet a.used a.second_used a.second a.passes

abbrev pub boxed : Progress → List ℕ → Progress
boxed p sheet =
    record {
      settings = p.settings;
      corners = p.corners;
      labels = p.labels;
      second = p.second;
      passes = p.passes;
      stage = p.stage;
      role = p.role;
      around = box_of sheet;
    }

abbrev pub joined_to : State → List ℕ → State
joined_to s sheet = state (boxed s.progress sheet) (on_sheet_of s.held sheet)

-- an array of so many entries holds these at its front, n of them
pub record Holds {A : Type 0} (size n : ℕ) (entries these : List A) : Type 0 where
  pub long : length entries ≡ size
  pub some : n ≤ size
  pub are : take n entries ≡ these

-- n corners stand at the front of three arrays
pub record HoldsCorners (cs : List CornerLine) (n : ℕ) (xs ys pitches : List Float) : Type 0 where
  pub count : n ≡ length cs
  pub xs_held : Holds corner_limit n xs (xs_in cs)
  pub ys_held : Holds corner_limit n ys (ys_in cs)
  pub pitches_held : Holds corner_limit n pitches (pitches_in cs)

-- a label of the list has this cell; this corner
abbrev pub cell_taken : List LabelLine → Cell → Bool
cell_taken ls c = some_of (λ l. same_cell l.cell c) ls

abbrev pub corner_taken : List LabelLine → ℤ → Bool
corner_taken ls z = some_of (λ l. eq_z l.corner z) ls

-- the corners that n labels use: one is used exactly if a label has it, each by another label
pub record HoldsUsed (ls : List LabelLine) (n : ℕ) (uses : ℕ → Bool) : Type 0 where
  pub count : n ≡ length ls
  pub corners : (k : ℕ) → k < corner_limit → uses k ≡ corner_taken ls (pos k)
  pub many : how_many uses corner_limit ≡ n

-- labels that were checked: of corners below 1,024, on the sheet, no cell and no corner twice
pub record CheckedLabels (ls : List LabelLine) : Type 0 where
  pub sound : All (Sound corner_limit) ls
  pub once : Apart ls

-- the n labels of the first set: their sheet, on which a place is 0 exactly if its cell has no label; a corner is used exactly if it has one
pub record HoldsLabels (ls : List LabelLine) (n : ℕ) (sheet : List ℕ) (used : List Bool) : Type 0 where
  pub sheet_is : sheet ≡ labelled empty_sheet (map placed ls)
  pub sheet_long : length sheet ≡ place_count
  pub cells : (c : Cell) → OnSheet c → is_set sheet (place_of c) ≡ cell_taken ls c
  pub uses : HoldsUsed ls n (is_used used)
  pub checked : CheckedLabels ls

-- the m labels of the second set, in the order of their lines; one of them has the place of a cell exactly if the cell is labelled, and a corner is
-- used exactly if it has a label
pub record HoldsSecond (ls : List LabelLine) (m : ℕ) (used : List Bool) (second : List SecondLabel) : Type 0 where
  pub labels_are : held_labels (take m second) ≡ map placed ls
  pub fits : HeldSecond (take m second)
  pub few : m ≤ corner_limit
  pub second_long : length second ≡ corner_limit
  pub cells : (c : Cell) → OnSheet c → list_any (has_place (place_of c)) (take m second) ≡ cell_taken ls c
  pub uses : HoldsUsed ls m (is_used used)

-- a shade of the list has this corner
abbrev pub corner_shaded : List ShadeLine → ℤ → Bool
corner_shaded ss z = some_of (λ s. eq_z s.corner z) ss

-- the bytes of the shades, with an entry for each corner that a frame may have, which is 0 exactly if the corner has no shade
pub record HoldsShades (ss : List ShadeLine) (shades : List ℕ) : Type 0 where
  pub shades_are : shades ≡ shaded (replicate corner_limit 0) ss
  pub shades_long : length shades ≡ corner_limit
  pub corners : (k : ℕ) → k < corner_limit → is_set shades k ≡ corner_shaded ss (pos k)

-- the words of m passes stand at the front of an array
pub record HoldsPasses (ps : List RoledPass) (m : ℕ) (words : List ℕ) : Type 0 where
  pub count : m ≡ length ps
  pub words_held : Holds all_pass_words (pass_size * m) words (all_words ps)

-- the parts of a frame are held
pub record FrameHeld (f : Parts) (s : State) : Type 0 where
  pub settings_are : s.progress.settings ≡ settings_in f.opening
  pub corners : HoldsCorners f.corners s.progress.corners s.held.xs s.held.ys s.held.pitches
  pub used_long : length s.held.used ≡ corner_limit
  pub second_used_long : length s.held.second_used ≡ corner_limit
  pub labels : HoldsLabels f.labels s.progress.labels s.held.sheet s.held.used
  pub patched : patched_of s.progress ≡ f.patched
  pub second : HoldsSecond f.second (second_of s.progress) s.held.second_used s.held.second
  pub shades : HoldsShades f.shades s.held.shades
  pub role : s.progress.role ≡ f.role
  pub passes : HoldsPasses f.passes s.progress.passes s.held.passes
  pub box : BoxFound s

-- ---- one line

-- room for one more line
pub record Room (s : State) : Type 0 where
  pub few : s.progress.corners ≤ corner_limit
  pub second_few : second_of s.progress ≤ corner_limit
  pub long : length s.held.sheet ≡ place_count
  pub counted : Counted s.progress s.held.used s.held.second_used

-- what a line leads to, and what is said and held after it
pub record Went : Type 0 where
  pub answer : Checked
  pub after : State

abbrev pub went : Checked → State → Went
went r s = record { answer = r; after = s }

-- with the line added it is `s`, and `t` without
abbrev pub held_by : Option ℕ → Checked → State → State → Went
held_by None checked s t = went (Err Refusal.Malformed) t
held_by (Some stage) (Ok tt) s t = went (Ok tt) (state (at_stage s.progress stage) s.held)
held_by (Some stage) (Err r) s t = went (Err r) t

-- the line, if there is one, is checked in its turn, and added if it is fine
unfoldable pub held_step : Option HeldLine → State → Went
held_step None s = went (Err Refusal.Malformed) s
held_step (Some line) s =
    held_by (turn_at s.progress.stage line.row)
    (checked_held s.progress.corners s.progress.passes s.progress.role (patched_of s.progress) s.held (second_of s.progress) line) (adds line s) s

-- ---- after the last line

-- both sets are held, the box is that of the first, and the number of the patch line is small
pub record Finishable (s : State) : Type 0 where
  pub sets : HeldSets s.held.sheet s.held.used (take (second_of s.progress) s.held.second)
  pub second_few : second_of s.progress ≤ corner_limit
  pub few : s.progress.corners ≤ corner_limit
  pub labels_few : s.progress.labels ≤ corner_limit
  pub box : BoxFound s

-- what the end leads to, and the sheet after it
pub record Finished : Type 0 where
  pub sheet : List ℕ
  pub answer : Result (Unit {0}) FrameRefusal

abbrev pub finished : List ℕ → Result (Unit {0}) FrameRefusal → Finished
finished sheet r = record { sheet = sheet; answer = r }

abbrev pub finished_as : Progress → Checked → Result (Unit {0}) FrameRefusal
finished_as p (Ok u) = Ok tt
finished_as p (Err r) = Err (record { refusal = r; line = 5 + p.corners + p.labels })

abbrev pub finished_by : Progress → Outcome → Finished
finished_by p o = finished o.sheet (finished_as p o.answer)

-- the second set is joined to the first where the patch line stands
abbrev pub finish_on : Bool → Progress → List ℕ → List Placed → Finished
finish_on false p sheet second = finished sheet (Ok tt)
finish_on true p sheet second = finished_by p (join_on sheet second)

-- ---- all lines

-- an accepted frame is held: its corners, the sheet of its given labels, its shades and its passes, and the label box of that sheet
pub record FrameDone (f : Frame) (p : Progress) (a : Held) : Type 0 where
  pub settings_are : p.settings ≡ settings_in (parts_of f).opening
  pub corners : HoldsCorners (parts_of f).corners p.corners a.xs a.ys a.pitches
  pub sheet_is : a.sheet ≡ sheet_of f
  pub sheet_long : length a.sheet ≡ place_count
  pub shades : HoldsShades (parts_of f).shades a.shades
  pub passes : HoldsPasses (parts_of f).passes p.passes a.passes
  pub around_is : p.around ≡ box_of (sheet_of f)

-- a frame read as the definition reads it: the same refusal at the same line, or the frame held
pub data ReadAs : FrameRead → Result (Unit {0}) FrameRefusal → State → Type 0 where
  refused_as : {s : State} (r : Refusal) (n : ℕ) → ReadAs (refused_at r n) (Err (record { refusal = r; line = n })) s
  held_as : {s : State} (f : Frame) → FrameDone f s.progress s.held → ReadAs (accepted f) (Ok tt) s

-- ---- the lent buffers

pub record LongEnough (b : Buffers) : Type 0 where
  pub xs_long : corner_limit ≤ length b.xs
  pub ys_long : corner_limit ≤ length b.ys
  pub pitches_long : corner_limit ≤ length b.pitches
  pub shades_long : corner_limit ≤ length b.shades
  pub sheet_long : place_count ≤ length b.sheet
  pub passes_long : all_pass_words ≤ length b.passes

abbrev pub buffers : List Float → List Float → List Float → List ℕ → List ℕ → List ℕ → Buffers
buffers xs ys pitches shades sheet passes = record { xs = xs; ys = ys; pitches = pitches; shades = shades; sheet = sheet; passes = passes }

-- what they hold
abbrev pub buffers_in : Lent.Buffers → Buffers
buffers_in b = buffers b.xs.now b.ys.now b.pitches.now b.shades.now b.sheet.now b.passes.now

-- the same buffers
pub record SameBuffers (before after : Lent.Buffers) : Type 0 where
  pub same_xs : after.xs.ghost_name ≡ before.xs.ghost_name
  pub same_ys : after.ys.ghost_name ≡ before.ys.ghost_name
  pub same_pitches : after.pitches.ghost_name ≡ before.pitches.ghost_name
  pub same_shades : after.shades.ghost_name ≡ before.shades.ghost_name
  pub same_sheet : after.sheet.ghost_name ≡ before.sheet.ghost_name
  pub same_passes : after.passes.ghost_name ≡ before.passes.ghost_name

-- what is held is copied to their fronts: the corners, their shades, the whole sheet and the passes
abbrev pub taken : Progress → Held → Buffers → Buffers
taken p a b =
    buffers (over (take p.corners a.xs) b.xs) (over (take p.corners a.ys) b.ys) (over (take p.corners a.pitches) b.pitches)
    (over (take p.corners a.shades) b.shades) (over a.sheet b.sheet) (over (take (pass_size * p.passes) a.passes) b.passes)
